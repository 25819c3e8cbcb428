use Rattle.std.proofs.Common.{List, ℕ}
use Rattle.vocabulary.specs.{subst}
use Rattle.text.specs.Holds.{Holds}
use Rattle.pass_sheet.proofs.Sheets.{by_kind}
use Rattle.pass_sheet.proofs.read_lines.Goals as goal

pub returns-in-First : goal.returns-in-First
returns-in-First c =
    subst (λ (t : List ℕ). Holds c.args.buffer.now t c.first_sheet.new.buffer c.first_sheet.result)
    (by_kind c.args.read _ c.pass_of.ensures c.in-First.is c.default_of.ensures c.in_force-bound.ensures) c.first_sheet.ensures

pub returns-in-Second : goal.returns-in-Second
returns-in-Second c =
    subst (λ (t : List ℕ). Holds c.args.buffer.now t c.second_sheet.new.buffer c.second_sheet.result)
    (by_kind c.args.read _ c.pass_of.ensures c.in-Second.is c.default_of.ensures c.in_force-bound.ensures) c.second_sheet.ensures
