use Rattle.std.specs.Prelude.{◌≡◌, ◌+◌, ◌*◌, ◌≤◌, ◌+ℤ◌, nat_abs, length}
use Rattle.whole.specs.Sums.{vector}
use Rattle.figures.specs.{Figure.angle_count, Numerators.sum_over}
use Rattle.closing.specs.{Choice.start_of, Premises.most_numerator}
use Rattle.closing.proofs.Starts.{laid}
use Rattle.closing.proofs.directions.start_of.Given as goal

-- the total and what is left of the way sum to the start
abbrev pub invariant-loop-angle : goal.invariant-loop-angle
invariant-loop-angle l = record {
  among : l.angle ≤ angle_count l.figure;
  sums : l.total +ℤ sum_over (laid l.figure l.angle) (vector l.x) ≡ start_of l.figure (vector l.x) l.i;
  small : nat_abs l.total + length (laid l.figure l.angle) * most_numerator ≤ 24 * most_numerator;
}

abbrev pub decreases-loop-angle : goal.decreases-loop-angle
decreases-loop-angle l = length (laid l.figure l.angle)
