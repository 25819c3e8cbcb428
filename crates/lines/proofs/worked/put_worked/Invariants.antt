-- the lines passed so far are laid after the figure's line
use Rattle.std.proofs.Common.{◌++◌}
use Rattle.figures.specs.Figure.{angle_count}
use Rattle.whole.specs.Lists.{listed}
use Rattle.text.specs.{Page.Lays, Text.line, Text.lines}
use Rattle.lines.proofs.worked.put_worked.Given as goal

abbrev pub invariant-loop-i : goal.invariant-loop-i
invariant-loop-i g l =
    Lays (line (g.W.Worked.figure_parts l.worked) ++ lines (listed l.i (g.W.Worked.angle_parts l.worked))) l.fn.page l.page

abbrev pub invariant-loop-j : goal.invariant-loop-j
invariant-loop-j g l =
    Lays ((line (g.W.Worked.figure_parts l.worked) ++ lines (listed (angle_count (g.W.Worked.named l.worked)) (g.W.Worked.angle_parts l.worked))) ++ lines (listed l.j (g.W.Worked.condition_parts l.worked))) l.fn.page l.page
