use Rattle.std.proofs.Common.{◌≡◌, ◌*◌, ◌^◌, ◌≤◌, nat_abs, ◌*ℤ◌}
use Rattle.whole.specs.Sums.{sum, vector}
use Rattle.pass_steps.specs.Premises.{most_applied}
use Rattle.pass_steps.proofs.numerators.row_applied.Given as goal

-- the total is the sum of the products passed
abbrev pub invariant-loop-j : goal.invariant-loop-j
invariant-loop-j l = record {
  total_is : l.total ≡ sum l.j (λ k. vector l.row k *ℤ vector l.w k);
  small : nat_abs l.total ≤ l.j * (2 ^ 7 * most_applied);
}
