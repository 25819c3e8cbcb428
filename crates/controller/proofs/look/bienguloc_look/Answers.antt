use Rattle.std.proofs.Common.{sym, ◌∙◌}
use Rattle.controller.specs.Promises.{look_rows}
use Rattle.controller.proofs.{Answers.refusal_small, Looked.look_refusal, Looked.look_refused, Looked.look_wrong, Looked.look_done}
use Rattle.controller.proofs.PlaceBounds.{look_in_table, look_within}
use Rattle.controller.proofs.look.bienguloc_look.Goals as goal

pub refused-requires : goal.refused-requires
refused-requires c =
    refusal_small (look_rows c.args.sheet.now c.args.head.now) (look_in_table c.args.sheet.now c.args.head.now) (look_within c.args.sheet.now c.args.head.now)
    (look_refusal c.args.sheet.now c.args.head.now _ (sym c.look_at.ensures ∙ c.in-Err.is))

pub returns-then-head-ne-HEAD_LENGTH : goal.returns-then-head-ne-HEAD_LENGTH
returns-then-head-ne-HEAD_LENGTH c =
    look_wrong c.args.sheet.now c.args.head.now _ _ (sym c.look_at.ensures ∙ c.in-Ok.is) c.if-head-ne-HEAD_LENGTH.true c.refused-then-head-ne-HEAD_LENGTH.ensures

pub returns-in-Err : goal.returns-in-Err
returns-in-Err c = look_refused c.args.sheet.now c.args.head.now _ (sym c.look_at.ensures ∙ c.in-Err.is) c.refused.ensures

pub returns-else-head-ne-HEAD_LENGTH : goal.returns-else-head-ne-HEAD_LENGTH
returns-else-head-ne-HEAD_LENGTH c =
    look_done c.args.sheet.now c.args.head.now _ _ (sym c.look_at.ensures ∙ c.in-Ok.is) c.if-head-ne-HEAD_LENGTH.false
    (c.copy_from_slice.ensures.after ∙ c.head_of.ensures)
