use Rattle.whole.specs.Sums.{vector}
use Rattle.whole.proofs.Lists.{Filled}
use Rattle.figures.specs.{Figure.condition_count, Numerators.condition_sum}
use Rattle.pass_steps.specs.Steps.{held}
use Rattle.pass_steps.proofs.conditions.sums_into.Given as goal

-- the sums passed are filled in
abbrev pub invariant-loop-j : goal.invariant-loop-j
invariant-loop-j l = Filled (condition_count l.figure) (λ k. held (condition_sum l.figure (vector l.x) k)) l.j l.sums
