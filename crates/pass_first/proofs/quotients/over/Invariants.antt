use Rattle.std.proofs.Common.{length}
use Rattle.whole.specs.{Quotient.rounded_quotient, Sums.vector}
use Rattle.whole.proofs.Lists.{Filled}
use Rattle.figures.specs.Figure.{denominator}
use Rattle.pass_first.proofs.quotients.over.Given as goal

-- the quotients passed are filled in
abbrev pub invariant-loop-i : goal.invariant-loop-i
invariant-loop-i g l = Filled (length l.numerators) (λ k. rounded_quotient (vector l.numerators k) (denominator g.F.FigureTable.figure)) l.i l.rounded
