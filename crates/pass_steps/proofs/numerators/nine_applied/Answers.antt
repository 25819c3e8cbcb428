use Rattle.std.proofs.Common.{◌≡◌, ◌∙◌, arith, rules, w32, to_z, of_z}
use Rattle.whole.specs.Sums.{applied}
use Rattle.whole.proofs.Lists.{filled_more}
use Rattle.pass_steps.proofs.AppliedRows.{enough}
use Rattle.pass_steps.proofs.numerators.nine_applied.Goals as goal

pub loop-i-preserved : goal.loop-i-preserved
unfolding applied
loop-i-preserved c =
    let at = c.loop-i in
    let read : to_z w32 (of_z w32 c.row_applied.result) ≡ c.row_applied.result = search rules in
    let more = filled_more (record { within = omega arith; size = at.invariant.size; done = at.invariant.done }) (omega arith) (read ∙ c.row_applied.ensures) in
    record { size = more.size; done = more.done }

pub returns : goal.returns
returns c = enough _ c.loop-i.i _ _ c.loop-i.invariant.done c.loop-i.invariant.size _ (omega arith)
