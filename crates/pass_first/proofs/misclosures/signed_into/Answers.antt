use Rattle.vocabulary.specs.{arith, w32, to_z_pos}
use Rattle.whole.proofs.Lists.{filled_more, filled_all}
use Rattle.pass_first.proofs.misclosures.signed_into.Goals as goal

pub overflow_cast-angle : goal.overflow_cast-angle
overflow_cast-angle c = record { sfits = omega (arith, c.requires.angles c.loop-i.i) }

pub loop-i-preserved : goal.loop-i-preserved
loop-i-preserved c = filled_more c.loop-i.invariant (omega arith) (to_z_pos w32 (omega (arith, c.requires.angles c.loop-i.i)))

pub returns : goal.returns
returns c = filled_all c.loop-i.invariant (omega arith)
