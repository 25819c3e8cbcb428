-- the values are judged first, and only what passed is packed
use Rattle.std.proofs.Common.{sym, ◌∙◌, rules}
use Rattle.sheet_rules.specs.Lent.{values_given}
use Rattle.sheet_writer.proofs.GivenLaws.{refused, right, written}
use Rattle.sheet_writer.proofs.write.write_given.Goals as goal

pub returns-in_err-check_given : goal.returns-in_err-check_given
returns-in_err-check_given c =
    let a = c.args in
    record {
      promise =
          refused a.head.kind a.head.figure (values_given a.bound a.values) a.sheet.now _ (search rules) (sym c.check_given.ensures ∙ c.in_err-check_given.was);
    }

pub pack-requires : goal.pack-requires
pack-requires c =
    let a = c.args in
    let lengths = right a.head.kind a.head.figure (values_given a.bound a.values) a.sheet.now (sym c.check_given.ensures ∙ c.in_ok-check_given.was) in
    record { lengths = lengths.0; sheet_len = lengths.1 }

pub returns : goal.returns
returns c =
    let a = c.args in
    record {
      promise =
          written a.head.kind a.head.figure (values_given a.bound a.values) a.sheet.now (sym c.check_given.ensures ∙ c.in_ok-check_given.was)
          c.pack.ensures;
    }
