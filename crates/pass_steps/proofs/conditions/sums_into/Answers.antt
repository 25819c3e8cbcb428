use Rattle.vocabulary.specs.{ap, ◌∙◌, arith, w32, w64, to_z_of_z_at}
use Rattle.whole.proofs.Lists.{filled_more, filled_all}
use Rattle.pass_steps.specs.Steps.{held}
use Rattle.pass_steps.proofs.conditions.sums_into.Goals as goal

pub loop-j-preserved : goal.loop-j-preserved
loop-j-preserved c =
    let sum = c.condition_sum in
    filled_more c.loop-j.invariant (omega arith)
    (to_z_of_z_at w32 _ (record { sfits = c.held.type_inv }) ∙ c.held.ensures ∙ ap held (to_z_of_z_at w64 _ (record { sfits = sum.type_inv }) ∙ sum.ensures))

pub returns : goal.returns
returns c = filled_all c.loop-j.invariant (omega arith)
