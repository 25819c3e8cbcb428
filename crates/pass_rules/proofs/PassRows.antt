-- The order of a pass, of both: number 1, and then the rows of the figure that code and n name. Assumes nothing.
use Rattle.std.specs.Prelude.{Err, None, Ok, Option, Some}
use Rattle.std.specs.Prelude.{Bool, List, [], ◌∷◌, map, ◌≡◌, refl, ℕ, T}
use Rattle.vocabulary.specs.{sym, ap, ap₂, ◌∙◌, arith}
use Rattle.refusals.specs.declared.Refusal.{Refusal}
use Rattle.refusals.specs.{Order.Row, Order.all_in_table, Order.answer_of, Order.fails_if, Order.verdict_of, Order.judged, Table.figure_row}
use Rattle.figures.specs.declared.Figure.{Figure}
use Rattle.figures.specs.Figure.{figure_of, figure_names, of_named}
use Rattle.figures.proofs.Naming.{none_named, one_named}

-- the figure of a sheet that passes, with its own rows passed
pub record OfFigure (code n : ℕ) (rows : Figure → List Row) : Type 0 where
  pub figure : Figure
  pub named : figure_of code n ≡ Some figure
  pub passed : judged (rows figure) ≡ Ok tt

module _ (code n : ℕ) (rows : Figure → List Row) where
  abbrev pub pass_rows : List Row
  pass_rows = figure_row code n figure_names ∷ of_named (figure_of code n) [] rows

  -- every row is one of the table's, if those of each figure are
  pub rows_in_table : ((f : Figure) → T (all_in_table (rows f))) → T (all_in_table pass_rows)
  rows_in_table own = go (figure_of code n)
    where
      go : (m : Option Figure) → T (all_in_table (figure_row code n figure_names ∷ of_named m [] rows))
      go None = tt
      go (Some f) = own f

  pub none_judged : figure_of code n ≡ None → judged pass_rows ≡ Err Refusal.NoSuchFigure
  unfolding answer_of
  none_judged e =
      ap (λ (asked : Bool). answer_of (fails_if asked Refusal.NoSuchFigure ∷ map verdict_of (of_named (figure_of code n) [] rows))) (none_named code n e)

  pub one_judged : {f : Figure} → figure_of code n ≡ Some f → judged pass_rows ≡ judged (rows f)
  unfolding answer_of
  one_judged e =
      ap₂ (λ (asked : Bool) (m : Option Figure). answer_of (fails_if asked Refusal.NoSuchFigure ∷ map verdict_of (of_named m [] rows))) (one_named code n e) e

  -- a sheet that passes names a figure
  pub of_figure : judged pass_rows ≡ Ok tt → OfFigure code n rows
  of_figure passed = go (figure_of code n) refl
    where
      go : (m : Option Figure) → figure_of code n ≡ m → OfFigure code n rows
      go None e = let clash : ◌≡◌ {A = ℕ} 0 1 = cc (none_judged e) in absurd (omega arith)
      go (Some f) e = record { figure = f; named = e; passed = sym (one_judged e) ∙ passed }
