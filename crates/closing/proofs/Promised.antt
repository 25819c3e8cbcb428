-- From what the steps promise to what the two operations do. Assumes nothing.
use Rattle.std.specs.Prelude.{Err, None, Ok, Option, Some}
use Rattle.refusals.specs.Numbers.{Verdict}
use Rattle.std.specs.Prelude.{ℕ, ◌≤◌, ◌<◌, Bool, true, false, ◌||◌, List, [], ◌∷◌, ◌≡◌, refl, ℤ, pos, nat_abs, ◌+ℤ◌, ◌-ℤ◌}
use Rattle.std.specs.Prelude.{length}
use Rattle.vocabulary.specs.{zero-le, true≢false, sym, ap, ap₂, subst, ◌∙◌, dec_lt, le_trans, arith, lit≤, list-get_or_eq_default}
use Rattle.vocabulary.specs.{lt_z}
use Rattle.whole.specs.{Lists.listed, Sums.vector}
use Rattle.whole.proofs.Lists.{listed_ext}
use Rattle.refusals.specs.{declared.Refusal.Refusal, Numbers.numbered, Promise.stored, Ranges.most_limit}
use Rattle.refusals.specs.{Table.lengths_row, Table.choice_row}
use Rattle.refusals.specs.Order.{Row, verdict_of, fails_if, judged}
use Rattle.refusals.specs.Questions.{asked, outside_signed, any_place}
use Rattle.refusals.proofs.{Answers.answer_of_one, Decided.not_less_signed, InSteps.judged_after_pass, InSteps.judged_after_failure}
use Rattle.figures.specs.declared.Figure.{Figure}
use Rattle.figures.specs.Figure.{denominator, angle_count, condition_count, figure_of, of_named}
use Rattle.figures.proofs.Figures.{denominator_positive}
use Rattle.pass_rules.specs.FirstPass.{misclosure, first_numerator, misclosures_of, numerators_of, first_result_lengths, first_rows}
use Rattle.pass_rules.specs.Promises.{FirstGiven, FirstLent, first_results_lent, FirstPromiseOf}
use Rattle.pass_rules.proofs.{FirstAccepted.Accepted, FirstAccepted.accepted, PassRows.none_judged, PassRows.one_judged}
use Rattle.pass_first.proofs.FirstBounds.{misclosure_small, first_numerator_small}
use Rattle.pass_steps.specs.Premises.{Within, most_summed}
use Rattle.pass_steps.proofs.{Judged.lengths_pass, Judged.kept, Judged.written, StepLaws.listed_at, StepLaws.listed_within}
use Rattle.closing.specs.{Choice.start_of, Choice.chosen, Choice.choice, Floor.floor_quotient, Floor.ceiling_quotient}
use Rattle.closing.specs.{Premises.most_numerator, Steps.some_strays, Steps.some_open}
use Rattle.closing.specs.Promises.{closing_rows_for, closing_answer, ClosingPromise, closing_answer_of, ClosingPromiseOf, rules_row, check_rows_for, check_answer, check_answer_of}
use Rattle.closing.specs.Rules.{pass_rows, choice_of, tenths_under, tenths_over, rests_left}
use Rattle.closing.proofs.{Anywhere.any_agrees, Anywhere.not_found, FloorLaws.between_small, Starts.start_agrees, Starts.end_is}

left_false : (a b : Bool) → (a || b) ≡ false → a ≡ false
left_false true b e = absurd (true≢false e)
left_false false b e = refl

right_false : (a b : Bool) → (a || b) ≡ false → b ≡ false
right_false true b e = absurd (true≢false e)
right_false false b e = e

-- ---- the first pass, whose slices for results have the figure's lengths

module _ (f : Figure) (limit : ℕ) (angles rounds fixed : List ℕ) where
  module _ (entry : FirstLent) {exit : FirstLent} {answer : Verdict} (lengths : first_results_lent entry ≡ first_result_lengths f)
      (promise : FirstPromiseOf f limit angles rounds fixed entry answer exit) where
    same_rows : judged (first_rows f limit angles rounds fixed (length angles ∷ length rounds ∷ length fixed ∷ first_results_lent entry)) ≡ judged (pass_rows f limit angles rounds fixed)
    same_rows = ap (λ (l : List ℕ). judged (first_rows f limit angles rounds fixed (length angles ∷ length rounds ∷ length fixed ∷ l))) lengths

    pub pass_answered : answer ≡ judged (pass_rows f limit angles rounds fixed)
    pass_answered = promise.answered ∙ same_rows

  -- what an accepted one says of its numbers
  module _ (passed : judged (pass_rows f limit angles rounds fixed) ≡ Ok tt) where
    ok : Accepted f limit angles rounds fixed (length angles ∷ length rounds ∷ length fixed ∷ first_result_lengths f)
    ok = accepted f limit angles rounds fixed _ passed

    pub numerators_small : Within most_numerator (numerators_of f angles fixed)
    numerators_small = listed_within (angle_count f) (first_numerator f angles fixed) most_numerator (λ i h. first_numerator_small f limit angles rounds fixed _ ok i)

    pub misclosures_small : Within most_limit (misclosures_of f angles fixed)
    misclosures_small = listed_within (condition_count f) (misclosure f angles fixed) most_limit (misclosure_small f limit angles rounds fixed _ ok)

-- ---- our own choice

chosen_agrees : (f : Figure) (x y : ℕ → ℤ) → ((i : ℕ) → i < angle_count f → x i ≡ y i) → (i : ℕ) → i < angle_count f → chosen f x i ≡ chosen f y i
unfolding chosen
chosen_agrees f x y same i h =
    let start : start_of f x i ≡ start_of f y i = start_agrees f x y same i h in
    ap₂ (λ (a b : ℤ). floor_quotient a (denominator f) -ℤ floor_quotient b (denominator f))
    (end_is f x i ∙ ap₂ ◌+ℤ◌ (same i h) start ∙ sym (end_is f y i)) start

choice_is : (f : Figure) (angles fixed : List ℕ) → listed (angle_count f) (chosen f (vector (numerators_of f angles fixed))) ≡ choice_of f angles fixed
unfolding choice first_numerator
choice_is f angles fixed =
    listed_ext (angle_count f) _ _ (chosen_agrees f (vector (numerators_of f angles fixed)) (first_numerator f angles fixed)
    (λ i h. listed_at (angle_count f) (first_numerator f angles fixed) i h))

-- number 2 of the one slice
module _ (f : Figure) (limit : ℕ) (angles rounds fixed : List ℕ) (lent : ℕ) where
  abbrev length_row : Row
  length_row = lengths_row (lent ∷ []) (angle_count f ∷ [])

  pub length_refused : (r : Refusal) → verdict_of length_row ≡ Err r → judged (closing_rows_for f limit angles rounds fixed lent) ≡ Err r
  unfolding closing_rows_for
  length_refused r e =
      judged_after_failure (length_row ∷ []) (pass_rows f limit angles rounds fixed) r (answer_of_one (verdict_of length_row) ∙ e)

  pub length_passed : verdict_of length_row ≡ Ok tt → judged (closing_rows_for f limit angles rounds fixed lent) ≡ judged (pass_rows f limit angles rounds fixed)
  unfolding closing_rows_for
  length_passed e = judged_after_pass (length_row ∷ []) (pass_rows f limit angles rounds fixed) (answer_of_one (verdict_of length_row) ∙ e)

  pub length_right : lent ≡ angle_count f → judged (closing_rows_for f limit angles rounds fixed lent) ≡ judged (pass_rows f limit angles rounds fixed)
  length_right own = length_passed (lengths_pass (lent ∷ []) (angle_count f ∷ []) (ap (λ (n : ℕ). n ∷ []) own))

module _ (f : Figure) (limit : ℕ) (angles rounds fixed : List ℕ) (entry : List ℤ) where
  module _ {v : Verdict} (is : v ≡ closing_answer_of f limit angles rounds fixed entry) where
    pub refused : (r : Refusal) → v ≡ Err r → ClosingPromiseOf f limit angles rounds fixed entry v entry
    refused r e = record { answered = is; leaves = kept _ _ _ r (sym is ∙ e) }

    pub chose : v ≡ Ok tt → {exact : List ℤ} → exact ≡ numerators_of f angles fixed → {exit : List ℤ}
        → exit ≡ listed (angle_count f) (chosen f (vector exact)) → ClosingPromiseOf f limit angles rounds fixed entry v exit
    chose e exact_is made = record {
      answered = is;
      leaves =
          written _ _ _ (sym is ∙ e)
          (made ∙ ap (λ (l : List ℤ). listed (angle_count f) (chosen f (vector l))) exact_is ∙ choice_is f angles fixed);
    }

-- ---- the check

-- what the steps find is what the row asks
module _ (f : Figure) (w numerators offered : List ℤ) (own : length offered ≡ angle_count f) where
  abbrev row15 : Row
  row15 = choice_row (tenths_under f numerators) (tenths_over f numerators) offered (rests_left f w offered)

  strays_asked : some_strays (denominator f) numerators offered
      ≡ any_place (length offered) (λ p. asked (outside_signed (numbered (tenths_under f numerators) p (pos 0)) (numbered (tenths_over f numerators) p (pos 0))
      (numbered offered p (pos 0))))
  strays_asked =
      any_agrees (length offered) _ _ (λ i h. ap₂ (λ (a b : ℤ). asked (outside_signed a b (vector offered i)))
      (sym (listed_at (angle_count f) (λ k. floor_quotient (vector numerators k) (denominator f)) i (omega (arith, own, h))))
      (sym (listed_at (angle_count f) (λ k. ceiling_quotient (vector numerators k) (denominator f)) i (omega (arith, own, h)))))

  row_is : verdict_of row15 ≡ fails_if (some_strays (denominator f) numerators offered || some_open (rests_left f w offered)) Refusal.ChoiceDoesNotClose
  row_is = ap (λ (b : Bool). fails_if (b || some_open (rests_left f w offered)) Refusal.ChoiceDoesNotClose) (sym strays_asked)

  pub strays_refused : some_strays (denominator f) numerators offered ≡ true → Err Refusal.ChoiceDoesNotClose ≡ verdict_of row15
  strays_refused e = sym (row_is ∙ ap (λ (b : Bool). fails_if (b || some_open (rests_left f w offered)) Refusal.ChoiceDoesNotClose) e)

  module _ (none : some_strays (denominator f) numerators offered ≡ false) where
    pub then_rests : (broken : Bool) → some_open (rests_left f w offered) ≡ broken → fails_if broken Refusal.ChoiceDoesNotClose ≡ verdict_of row15
    then_rests broken e = sym (row_is ∙ ap₂ (λ (a b : Bool). fails_if (a || b) Refusal.ChoiceDoesNotClose) none e)

    -- corrections that do not stray are small
    pub offered_small : length numerators ≡ angle_count f → Within most_numerator numerators → Within most_summed offered
    offered_small as_many small i = go (dec_lt i (length offered))
      where
        go : Dec (i < length offered) → nat_abs (vector offered i) ≤ most_summed
        go (yes h) =
            let z = vector numerators i in
            let x = vector offered i in
            let kept_in : (lt_z x (floor_quotient z (denominator f)) || lt_z (ceiling_quotient z (denominator f)) x) ≡ false =
            not_found (λ p. asked (outside_signed (floor_quotient (numbered numerators p (pos 0)) (denominator f))
            (ceiling_quotient (numbered numerators p (pos 0)) (denominator f)) (numbered offered p (pos 0)))) (length offered) i h none in
            let low = (not_less_signed x (floor_quotient z (denominator f))).0
            (left_false (lt_z x (floor_quotient z (denominator f))) (lt_z (ceiling_quotient z (denominator f)) x) kept_in) in
            let high = (not_less_signed (ceiling_quotient z (denominator f)) x).0
            (right_false (lt_z x (floor_quotient z (denominator f))) (lt_z (ceiling_quotient z (denominator f)) x) kept_in) in
            le_trans (between_small (denominator f) (denominator_positive f) z x low high) (le_trans (small i) (lit≤ tt))
        go (no h) = subst (λ (y : ℤ). nat_abs y ≤ most_summed) (sym (list-get_or_eq_default offered (pos 0) {n = i} (omega arith))) zero-le

-- of a figure that is named
module _ (f : Figure) (limit : ℕ) (angles rounds fixed : List ℕ) (offered : List ℤ) where
  abbrev rows_before : List Row
  rows_before = closing_rows_for f limit angles rounds fixed (length offered)

  pub refused_before : (r : Refusal) → judged rows_before ≡ Err r → check_answer_of f limit angles rounds fixed offered ≡ Err r
  unfolding check_rows_for
  refused_before r e = judged_after_failure rows_before (rules_row f angles fixed offered ∷ []) r e

  pub asked_after : judged rows_before ≡ Ok tt → verdict_of (rules_row f angles fixed offered) ≡ check_answer_of f limit angles rounds fixed offered
  unfolding check_rows_for
  asked_after e = sym (judged_after_pass rows_before (rules_row f angles fixed offered ∷ []) e ∙ answer_of_one (verdict_of (rules_row f angles fixed offered)))

  module _ (own : length offered ≡ angle_count f) (v : Verdict) (is : v ≡ judged (pass_rows f limit angles rounds fixed)) where
    pub check_refused : (r : Refusal) → v ≡ Err r → v ≡ check_answer_of f limit angles rounds fixed offered
    check_refused r e = e ∙ sym (refused_before r (length_right f limit angles rounds fixed (length offered) own ∙ sym is ∙ e))

    pub check_asked : v ≡ Ok tt → verdict_of (rules_row f angles fixed offered) ≡ check_answer_of f limit angles rounds fixed offered
    check_asked e = asked_after (length_right f limit angles rounds fixed (length offered) own ∙ sym is ∙ e)

-- ---- and of code and n

module _ (given : FirstGiven) (entry : List ℤ) where
  abbrev closing_rows_named : Figure → List Row
  closing_rows_named f = closing_rows_for f given.limit given.angles given.rounds given.fixed (length entry)

  pub none_named : figure_of given.code given.n ≡ None → ClosingPromise given entry (Err Refusal.NoSuchFigure) entry
  none_named e = record {
    answered = sym (none_judged given.code given.n closing_rows_named e);
    leaves = sym (ap (λ (m : Option Figure). of_named m entry (λ f. stored (closing_answer given entry) (choice_of f given.angles given.fixed) entry)) e);
  }

  pub of_figure : (f : Figure) → figure_of given.code given.n ≡ Some f → {answer : Verdict} {exit : List ℤ}
      → ClosingPromiseOf f given.limit given.angles given.rounds given.fixed entry answer exit → ClosingPromise given entry answer exit
  of_figure f named promise =
      let verdict = sym (one_judged given.code given.n closing_rows_named named) in
      record {
        answered = promise.answered ∙ verdict;
        leaves =
            promise.leaves
            ∙ ap₂ (λ (m : Option Figure) (v : Verdict). of_named m entry (λ g. stored v (choice_of g given.angles given.fixed) entry)) (sym named) verdict;
      }

  abbrev check_rows_named : Figure → List Row
  check_rows_named f = check_rows_for f given.limit given.angles given.rounds given.fixed entry

  pub check_none_named : figure_of given.code given.n ≡ None → Err Refusal.NoSuchFigure ≡ check_answer given entry
  check_none_named e = sym (none_judged given.code given.n check_rows_named e)

  pub check_of_figure : (f : Figure) → figure_of given.code given.n ≡ Some f
      → check_answer_of f given.limit given.angles given.rounds given.fixed entry ≡ check_answer given entry
  check_of_figure f named = sym (one_judged given.code given.n check_rows_named named)
