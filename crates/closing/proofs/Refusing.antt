-- The orders of the two operations: they refuse exactly where the first pass does, never with 15 our own, and the check with 15 after
-- that. Assumes nothing.
use Rattle.std.specs.Prelude.{Err, None, Ok, Option, Some}
use Rattle.std.specs.Prelude.{ℕ, Bool, not, List, [], ◌∷◌, ◌↔◌, ◌⊎◌, ◌≡◌, refl, T, eqb, ℤ, length}
use Rattle.vocabulary.specs.{inl, inr, ⊎_elim, sym, ap, subst, ◌∙◌, arith, eq-eqb}
use Rattle.whole.specs.{Sums.vector, Lists.every}
use Rattle.whole.proofs.{Computed.and_left, Computed.and_right, Lists.length_listed}
use Rattle.refusals.specs.declared.Refusal.{Refusal}
use Rattle.refusals.specs.{Numbers.told, Numbers.verdict_told, Table.lengths_row}
use Rattle.refusals.specs.Order.{Row, number, Stands, all_in_table, verdict_of, judged}
use Rattle.refusals.proofs.{InSteps.both_parts, Rows.answers_exactly, Rows.answered_stands}
use Rattle.figures.specs.declared.Figure.{Figure}
use Rattle.figures.specs.Figure.{angle_count, figure_of, of_named}
use Rattle.pass_rules.specs.FirstPass.{misclosure, first_rows, first_pass_rows, first_pass_verdict}
use Rattle.pass_rules.specs.Promises.{FirstGiven, FirstLent, first_lengths_lent, first_answer}
use Rattle.pass_rules.proofs.PassRows.{rows_in_table, none_judged, one_judged}
use Rattle.closing.specs.{Choice.choice, Rules.pass_rows, Rules.BothRules, Rules.choice_of}
use Rattle.closing.specs.Promises.{closing_rows_for, closing_rows, closing_answer, rules_row, check_rows_for, check_rows, check_answer, Fitting}
use Rattle.closing.proofs.BothRules.{choice_keeps_rules, row_passes_exactly, row_fails_exactly, row_either}
use Rattle.closing.proofs.Promised.{length_right, check_asked, check_refused}

-- ---- every row is in the table

module _ (given : FirstGiven) (lent : List ℤ) where
  abbrev own_rows : Figure → List Row
  own_rows f = closing_rows_for f given.limit given.angles given.rounds given.fixed (length lent)

  abbrev own_checks : Figure → List Row
  own_checks f = check_rows_for f given.limit given.angles given.rounds given.fixed lent

  pub closing_in_table : T (all_in_table (closing_rows given lent))
  unfolding closing_rows_for first_rows
  closing_in_table = rows_in_table given.code given.n own_rows (λ f. tt)

  pub check_in_table : T (all_in_table (check_rows given lent))
  unfolding check_rows_for closing_rows_for first_rows
  check_in_table = rows_in_table given.code given.n own_checks (λ f. tt)

-- ---- our own choice is never refused with 15

abbrev others : ℕ → List Row → Bool
others k rows = every (λ r. not (eqb k (number r))) rows

not_so : (k j : ℕ) → T (not (eqb k j)) → k ≡ j → ⊥
not_so k j t e = subst (λ (b : Bool). T (not b)) (eq-eqb k j e) t

not_standing : (k : ℕ) (rows : List Row) → T (others k rows) → Stands k rows → ⊥
not_standing k [] t s = s
not_standing k (r ∷ later) t s =
    ⊎_elim (λ (here : k ≡ number r). not_so k (number r) (and_left (not (eqb k (number r))) (others k later) t) here)
    (not_standing k later (and_right (not (eqb k (number r))) (others k later) t)) s

pub never_fifteen : (given : FirstGiven) (lent : List ℤ) (p : ℕ) → verdict_told (closing_answer given lent) ≡ told 15 p → ⊥
unfolding closing_rows_for first_rows
never_fifteen given lent p e =
    ⊎_elim (λ (zero : 15 ≡ 0). absurd (omega arith)) (not_standing 15 (closing_rows given lent) (go (figure_of given.code given.n)))
    (answered_stands (closing_rows given lent) 15 p ((answers_exactly (closing_rows given lent) (closing_in_table given lent) 15 p).0 e))
  where
    go : (m : Option Figure) → T (others 15 (of_named m [] (λ f. closing_rows_for f given.limit given.angles given.rounds given.fixed (length lent))))
    go None = tt
    go (Some f) = tt

-- ---- the first pass of the same sheet

module _ (given : FirstGiven) (lent : FirstLent) (corrections : List ℤ) (fitting : Fitting given lent corrections) where
  abbrev first_own : Figure → List Row
  first_own f = first_rows f given.limit given.angles given.rounds given.fixed (first_lengths_lent given lent)

  abbrev pass_of : Figure → List Row
  pass_of f = pass_rows f given.limit given.angles given.rounds given.fixed

  first_is : (f : Figure) → figure_of given.code given.n ≡ Some f → first_answer given lent ≡ judged (pass_of f)
  unfolding first_pass_verdict first_pass_rows
  first_is f named =
      one_judged given.code given.n first_own named
      ∙ ap (λ (l : List ℕ). judged (first_rows f given.limit given.angles given.rounds given.fixed (length given.angles ∷ length given.rounds ∷ length given.fixed ∷ l)))
      (fitting f named).1

  closing_is : (f : Figure) → figure_of given.code given.n ≡ Some f → closing_answer given corrections ≡ judged (pass_of f)
  closing_is f named =
      one_judged given.code given.n (own_rows given corrections) named
      ∙ length_right f given.limit given.angles given.rounds given.fixed (length corrections) (fitting f named).0

  -- the same number and place, or done
  pub as_the_first_pass : closing_answer given corrections ≡ first_answer given lent
  unfolding first_pass_verdict first_pass_rows
  as_the_first_pass = go (figure_of given.code given.n) refl
    where
      go : (m : Option Figure) → figure_of given.code given.n ≡ m → closing_answer given corrections ≡ first_answer given lent
      go None none =
          none_judged given.code given.n (own_rows given corrections) none ∙ sym (none_judged given.code given.n first_own none)
      go (Some f) named = closing_is f named ∙ sym (first_is f named)

  -- the check refuses as it does
  pub check_as_refused : (r : Refusal) → first_answer given lent ≡ Err r → check_answer given corrections ≡ Err r
  unfolding first_pass_verdict first_pass_rows
  check_as_refused r failed = go (figure_of given.code given.n) refl
    where
      go : (m : Option Figure) → figure_of given.code given.n ≡ m → check_answer given corrections ≡ Err r
      go None none =
          none_judged given.code given.n (own_checks given corrections) none ∙ sym (none_judged given.code given.n first_own none) ∙ failed
      go (Some f) named =
          one_judged given.code given.n (own_checks given corrections) named
          ∙ sym (check_refused f given.limit given.angles given.rounds given.fixed corrections (fitting f named).0 (first_answer given lent) (first_is f named) r failed) ∙ failed

  -- and else asks both rules
  module _ (passed : first_answer given lent ≡ Ok tt) (f : Figure) (named : figure_of given.code given.n ≡ Some f) where
    check_is : check_answer given corrections ≡ verdict_of (rules_row f given.angles given.fixed corrections)
    check_is =
        one_judged given.code given.n (own_checks given corrections) named
        ∙ sym (check_asked f given.limit given.angles given.rounds given.fixed corrections (fitting f named).0 (first_answer given lent) (first_is f named) passed)

    pub check_passes : (check_answer given corrections ≡ Ok tt) ↔ BothRules f given.angles given.fixed (vector corrections)
    check_passes =
        let exactly = row_passes_exactly f given.angles given.fixed corrections (fitting f named).0 in
        (λ e. exactly.0 (sym check_is ∙ e), λ rules. check_is ∙ exactly.1 rules)

    pub check_fails : (check_answer given corrections ≡ Err Refusal.ChoiceDoesNotClose) ↔ (BothRules f given.angles given.fixed (vector corrections) → ⊥)
    check_fails =
        let exactly = row_fails_exactly f given.angles given.fixed corrections (fitting f named).0 in
        (λ e. exactly.0 (sym check_is ∙ e), λ none. check_is ∙ exactly.1 none)

    -- there is no third answer
    pub check_either : (check_answer given corrections ≡ Ok tt) ⊎ (check_answer given corrections ≡ Err Refusal.ChoiceDoesNotClose)
    check_either =
        ⊎_elim (λ (e : verdict_of (rules_row f given.angles given.fixed corrections) ≡ Ok tt). inl (check_is ∙ e))
        (λ (e : verdict_of (rules_row f given.angles given.fixed corrections) ≡ Err Refusal.ChoiceDoesNotClose). inr (check_is ∙ e))
        (row_either f given.angles given.fixed corrections (fitting f named).0)

-- ---- the check accepts our own choice

pass_passed : (f : Figure) (limit : ℕ) (angles rounds fixed : List ℕ) (lent : ℕ) → judged (closing_rows_for f limit angles rounds fixed lent) ≡ Ok tt
    → judged (pass_rows f limit angles rounds fixed) ≡ Ok tt
unfolding closing_rows_for
pass_passed f limit angles rounds fixed lent e = (both_parts (lengths_row (lent ∷ []) (angle_count f ∷ []) ∷ []) (pass_rows f limit angles rounds fixed) e).1

pub own_choice_passes : (given : FirstGiven) (entry : List ℤ) (f : Figure) → figure_of given.code given.n ≡ Some f → closing_answer given entry ≡ Ok tt
    → check_answer given (choice_of f given.angles given.fixed) ≡ Ok tt
own_choice_passes given entry f named passed =
    let chosen : List ℤ = choice_of f given.angles given.fixed in
    let own : length chosen ≡ angle_count f = length_listed (angle_count f) (choice f (misclosure f given.angles given.fixed)) in
    let ok : judged (pass_rows f given.limit given.angles given.rounds given.fixed) ≡ Ok tt =
    pass_passed f given.limit given.angles given.rounds given.fixed (length entry) (sym (one_judged given.code given.n (own_rows given entry) named) ∙ passed) in
    one_judged given.code given.n (own_checks given chosen) named
    ∙ sym (check_asked f given.limit given.angles given.rounds given.fixed chosen own (Ok tt) (sym ok) refl)
    ∙ (row_passes_exactly f given.angles given.fixed chosen own).1 (choice_keeps_rules f given.angles given.fixed)
