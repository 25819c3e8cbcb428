use Rattle.std.specs.Prelude.{◌≡◌, ◌+◌, ◌*◌, ◌^◌, ◌≤◌, nat_abs}
use Rattle.whole.specs.Sums.{sum, vector}
use Rattle.pass_steps.proofs.conditions.run_sum.Given as goal

-- the total is the sum of the numbers passed
abbrev pub invariant-loop-k : goal.invariant-loop-k
invariant-loop-k l = record {
  total_is : l.total ≡ sum l.k (λ i. vector l.x (l.first + l.step * i));
  within : nat_abs l.total ≤ l.k * 2 ^ 31;
}
