-- The orders of both passes, for demand 1: every row is in the table, and the second pass's answer tells what its rows are judged to be.
-- Of every code, n and sheet. Assumes nothing.
use Rattle.figures.specs.declared.Figure.{Figure}
use Rattle.std.specs.Prelude.{Err}
use Rattle.std.specs.Prelude.{Err, None, Ok, Option, Some}
use Rattle.refusals.specs.Numbers.{Verdict}
use Rattle.std.specs.Prelude.{List, ◌≡◌, refl, ℕ, T}
use Rattle.vocabulary.specs.{sym, ap}
use Rattle.refusals.specs.{declared.Refusal.Refusal, Numbers.verdict_told, Order.all_in_table}
use Rattle.figures.specs.Figure.{figure_of, of_named}
use Rattle.pass_rules.specs.{FirstPass.first_rows, FirstPass.first_pass_rows}
use Rattle.pass_rules.specs.SecondPass.{SineEntries, second_rows, second_pass_rows, second_pass_verdict, second_answer_for, second_pass_answer, second_told}
use Rattle.pass_rules.proofs.PassRows.{rows_in_table, none_judged}

module _ (code n limit : ℕ) (angles rounds fixed lent : List ℕ) where
  pub first_in_table : T (all_in_table (first_pass_rows code n limit angles rounds fixed lent))
  unfolding first_pass_rows first_rows
  first_in_table = rows_in_table code n (λ f. first_rows f limit angles rounds fixed lent) (λ f. tt)

module _ (code n tolerance : ℕ) (angles rounds : List ℕ) (e : SineEntries) (lent : List ℕ) where
  pub second_in_table : T (all_in_table (second_pass_rows code n tolerance angles rounds e lent))
  unfolding second_pass_rows second_rows
  second_in_table = rows_in_table code n (λ f. second_rows f tolerance angles rounds e lent) (λ f. tt)

  -- the answer tells what the verdict does
  pub second_tells : second_told (second_pass_answer code n tolerance angles rounds e lent)
      ≡ verdict_told (second_pass_verdict code n tolerance angles rounds e lent)
  unfolding second_pass_answer second_pass_verdict second_pass_rows
  second_tells = go (figure_of code n) refl
    where
      go : (m : Option Figure) → figure_of code n ≡ m
          → second_told (of_named m (Err Refusal.NoSuchFigure)
          (λ f. second_answer_for f e (second_pass_verdict code n tolerance angles rounds e lent)))
          ≡ verdict_told (second_pass_verdict code n tolerance angles rounds e lent)
      go None none = sym (ap verdict_told (none_judged code n (λ f. second_rows f tolerance angles rounds e lent) none))
      go (Some f) one = by_verdict (second_pass_verdict code n tolerance angles rounds e lent)
        where
          by_verdict : (v : Verdict) → second_told (second_answer_for f e v) ≡ verdict_told v
          by_verdict (Ok tt) = refl
          by_verdict (Err refusal) = refl
