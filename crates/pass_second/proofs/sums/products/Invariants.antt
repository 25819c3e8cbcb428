-- The total is the sum of the products passed.
use Rattle.std.specs.Prelude.{◌*◌, ◌*ℤ◌}
use Rattle.whole.specs.Sums.{vector}
use Rattle.pass_steps.specs.Premises.{most_reduced}
use Rattle.pass_second.proofs.Growing.{Total}
use Rattle.pass_second.proofs.sums.products.Given as goal

abbrev pub invariant-loop-i : goal.invariant-loop-i
invariant-loop-i l = Total (most_reduced * most_reduced) (λ k. vector l.fn.a k *ℤ vector l.b k) l.i l.total
