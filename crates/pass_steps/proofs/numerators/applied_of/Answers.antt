use Rattle.std.proofs.Common.{◌∙◌, ℕ, List, ℤ, ap₂}
use Rattle.whole.specs.Lists.{listed}
use Rattle.whole.specs.Sums.{vector, table, applied}
use Rattle.figures.specs.declared.Counts.{Counts}
use Rattle.pass_steps.proofs.Tables.{padded_numerators}
use Rattle.pass_steps.proofs.numerators.applied_of.Goals as goal

-- the counts and the table are the figure's own
pub returns : goal.returns
returns g c =
    c.rows_applied.ensures
    ∙ ap₂ (λ (angles conditions : ℕ). listed angles (applied conditions (table c.rows.result) (vector c.args.w.now))) c.ANGLES.ensures c.CONDITIONS.ensures
    ∙ ap₂ (λ (n : Counts) (rows : List (List ℤ)). listed n.angles (applied n.conditions (table rows) (vector c.args.w.now))) g.met.F.FigureTable.counted c.rows.ensures
    ∙ padded_numerators g.F.FigureTable.figure (vector c.args.w.now)
