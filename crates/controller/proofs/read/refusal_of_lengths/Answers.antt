-- The rows before number 2, and number 2, which no sheet without lengths passes.
use Rattle.std.proofs.Common.{[], sym, ◌∙◌}
use Rattle.sheet_rules.proofs.Accepted.{head_found, head_refused}
use Rattle.controller.proofs.SheetsRead.{size_refused, lengths_refused}
use Rattle.controller.proofs.read.refusal_of_lengths.Goals as goal

pub returns-in-Err : goal.returns-in-Err
returns-in-Err c = head_refused c.args.sheet.now [] _ (sym c.look_at.ensures ∙ c.in-Err.is)

pub returns-then-sheet-sheet_size : goal.returns-then-sheet-sheet_size
returns-then-sheet-sheet_size c =
    head_found c.args.sheet.now [] _ _ (sym c.look_at.ensures ∙ c.in-Ok.is)
    ∙ size_refused _ _ _ (λ e. c.if-sheet-sheet_size.true (e ∙ sym c.sheet_size.ensures))

pub returns-else-sheet-sheet_size : goal.returns-else-sheet-sheet_size
returns-else-sheet-sheet_size c =
    head_found c.args.sheet.now [] _ _ (sym c.look_at.ensures ∙ c.in-Ok.is)
    ∙ lengths_refused _ _ _ (c.if-sheet-sheet_size.false ∙ c.sheet_size.ensures)
