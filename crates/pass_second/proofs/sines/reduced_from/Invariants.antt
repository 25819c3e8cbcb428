-- The places passed are worked over, those after them as they were, and the total is the sum of the squares.
use Rattle.std.specs.Prelude.{length, pos, ◌*◌, ◌*ℤ◌}
use Rattle.whole.proofs.Lists.{Replaced}
use Rattle.pass_steps.specs.Premises.{most_reduced}
use Rattle.pass_second.specs.Sines.{reduced_from}
use Rattle.pass_second.proofs.Growing.{Total}
use Rattle.pass_second.proofs.sines.reduced_from.Given as goal

abbrev pub invariant-loop-i : goal.invariant-loop-i
invariant-loop-i l = record {
  replaced : Replaced (pos 0) (length l.fn.d) (reduced_from l.denominator l.fn.d l.fn.a) l.fn.a l.i l.a;
  squared : Total (most_reduced * most_reduced) (λ k. reduced_from l.denominator l.fn.d l.fn.a k *ℤ reduced_from l.denominator l.fn.d l.fn.a k) l.i l.squares;
}
