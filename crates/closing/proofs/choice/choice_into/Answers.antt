use Rattle.vocabulary.specs.{◌∙◌, arith, w32, to_z_of_z_at}
use Rattle.whole.proofs.Lists.{filled_more, filled_all}
use Rattle.closing.proofs.choice.choice_into.Goals as goal

pub loop-i-preserved : goal.loop-i-preserved
loop-i-preserved c = filled_more c.loop-i.invariant (omega arith) (to_z_of_z_at w32 _ (record { sfits = c.choice_at.type_inv }) ∙ c.choice_at.ensures)

pub returns : goal.returns
returns c = filled_all c.loop-i.invariant (omega arith)
