use Rattle.std.specs.Prelude.{nat_abs, length}
use Rattle.whole.specs.Sums.{vector}
use Rattle.whole.proofs.Lists.{Filled}
use Rattle.judging.specs.Searches.{results_of}
use Rattle.pass_steps.proofs.results.store_results.Given as goal

-- the results passed are filled in
abbrev pub invariant-loop-i : goal.invariant-loop-i
invariant-loop-i l = Filled (length l.angles) (λ k. nat_abs (vector (results_of l.angles l.rounded) k)) l.i l.results
