-- the refusal of the numbers, or what follows once kind and figure are known
use Rattle.std.proofs.Common.{rules}
use Rattle.sheet_rules.specs.Lent.{values_given}
use Rattle.sheet_writer.proofs.GivenLaws.{head_refuses, given_writes}
use Rattle.sheet_writer.proofs.write.write_sheet.Goals as goal

pub returns-in_err-head : goal.returns-in_err-head
returns-in_err-head c =
    let a = c.args in
    record {
      promise =
          head_refuses a.kind a.code a.n (values_given a.limit_or_tolerance a.values) a.sheet.now c.named_head.ensures _ c.in_err-head.was (search rules);
    }

pub returns : goal.returns
returns c =
    let a = c.args in
    record {
      promise =
          given_writes a.kind a.code a.n (values_given a.limit_or_tolerance a.values) a.sheet.now c.named_head.ensures _ _ c.in_ok-head.was c.write_given.ensures.promise;
    }
