use Rattle.vocabulary.specs.{arith, rules}
use Rattle.whole.proofs.Lists.{filled_none, filled_more}
use Rattle.pass_second.proofs.Growing.{total_none, total_more}
use Rattle.pass_second.proofs.sines.signed_into.Goals as goal

pub loop-i-init : goal.loop-i-init
loop-i-init c = record { filled = filled_none _ _ _ c.requires.d_len; misclosures = total_none _ _; squares = total_none _ _ }

pub loop-i-preserved : goal.loop-i-preserved
loop-i-preserved c = record {
  filled = filled_more c.loop-i.invariant.filled (omega arith) (search rules);
  misclosures = total_more {one = c.signed_log_sine-misclosure.result} c.loop-i.invariant.misclosures (search rules) c.signed_log_sine-misclosure.ensures.small (search rules);
  squares = total_more {one = c.squared_difference-difference_squares.result} c.loop-i.invariant.squares (search rules) c.squared_difference-difference_squares.ensures.small (search rules);
}
