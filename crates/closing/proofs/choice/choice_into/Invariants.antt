use Rattle.whole.specs.Sums.{vector}
use Rattle.whole.proofs.Lists.{Filled}
use Rattle.figures.specs.Figure.{angle_count}
use Rattle.closing.specs.Choice.{chosen}
use Rattle.closing.proofs.choice.choice_into.Given as goal

-- the corrections passed are filled in
abbrev pub invariant-loop-i : goal.invariant-loop-i
invariant-loop-i l = Filled (angle_count l.figure) (chosen l.figure (vector l.numerators)) l.i l.corrections
