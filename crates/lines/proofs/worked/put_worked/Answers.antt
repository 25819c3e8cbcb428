-- each turn lays one line more
use Rattle.std.proofs.Common.{◌≡◌, ◌++◌, ℕ, ap, ◌∙◌, arith}
use Rattle.whole.specs.Lists.{listed}
use Rattle.figures.specs.{declared.Counts.Counts, Figure.angle_count, Figure.condition_count, Figure.counts_of}
use Rattle.text.specs.Text.{line, lines}
use Rattle.lines.proofs.{Laid.lays_as, Laid.lines_begun, Laid.lines_more, Texts.all_text}
use Rattle.lines.proofs.worked.put_worked.Goals as goal

pub loop-i-init : goal.loop-i-init
loop-i-init g c = lines_begun _ _ _ c.put_figure.ensures

pub loop-i-preserved : goal.loop-i-preserved
loop-i-preserved g c = lines_more _ _ _ _ c.loop-i.invariant c.put_angle.ensures

pub loop-j-init : goal.loop-j-init
loop-j-init g c =
    let w = c.args.worked.now in
    let counted = c.counts_of-counts.ensures ∙ ap counts_of c.figure.ensures in
    let all : c.loop-i.i ≡ angle_count (g.W.Worked.named w) = omega (arith, ap (λ (r : Counts). r.angles) counted) in
    lines_begun _ _ _
    (lays_as _ (ap (λ (k : ℕ). line (g.W.Worked.figure_parts w) ++ lines (listed k (g.W.Worked.angle_parts w))) all) c.loop-i.invariant)

pub loop-j-preserved : goal.loop-j-preserved
loop-j-preserved g c = lines_more _ _ _ _ c.loop-j.invariant c.put_condition.ensures

pub returns : goal.returns
returns g c =
    let w = c.args.worked.now in
    let f = g.W.Worked.named w in
    let counted = c.counts_of-counts.ensures ∙ ap counts_of c.figure.ensures in
    let all : c.loop-j.j ≡ condition_count f = omega (arith, ap (λ (r : Counts). r.conditions) counted) in
    let before = line (g.W.Worked.figure_parts w) ++ lines (listed (angle_count f) (g.W.Worked.angle_parts w)) in
    lays_as _
    (ap (λ (k : ℕ). before ++ lines (listed k (g.W.Worked.condition_parts w))) all
    ∙ all_text f (g.W.Worked.figure_parts w) (g.W.Worked.angle_parts w) (g.W.Worked.condition_parts w))
    c.loop-j.invariant
