-- From the steps of a first pass to what it promises, of a figure that is named. Assumes nothing.
use Rattle.std.specs.Prelude.{Err, None, Ok, Option, Some}
use Rattle.refusals.specs.Numbers.{Verdict}
use Rattle.std.specs.Prelude.{◌≡◌, refl, List, [], ◌∷◌, ℕ, ◌<◌, ℤ, nat_abs, ◌+ℤ◌, length, get_or}
use Rattle.vocabulary.specs.{sym, ap, ap₂, ◌∙◌, le_trans, lt_of_le_of_lt, lit<, lit≤}
use Rattle.whole.specs.{Lists.listed, Quotient.rounded_quotient, Sums.vector}
use Rattle.whole.proofs.Lists.{listed_ext}
use Rattle.refusals.specs.{declared.Refusal.Refusal, Order.Row, Order.verdict_of, Order.judged, Promise.stored}
use Rattle.refusals.specs.Ranges.{most_limit}
use Rattle.refusals.specs.Table.{misclosures_row, results_row}
use Rattle.refusals.proofs.{Answers.answer_of_one, InSteps.judged_after_pass, InSteps.judged_after_failure, Rows.none_holds}
use Rattle.judging.specs.Searches.{results_of}
use Rattle.figures.specs.declared.Figure.{Figure}
use Rattle.figures.specs.Figure.{denominator, angle_count, condition_count, figure_of, of_named}
use Rattle.figures.specs.Numerators.{condition_sum, numerator}
use Rattle.pass_rules.specs.FirstPass.{limit_of, misclosure, first_numerator, first_rounded, corrected, first_rest, misclosures_of, numerators_of, rounded_of, rests_of, first_lengths, given_rows, first_rows, first_pass_rows, first_pass_verdict}
use Rattle.pass_rules.specs.Pass.{given}
use Rattle.pass_rules.specs.Promises.{FirstGiven, FirstLent, first_lent, first_slices, first_lengths_lent, first_answer, first_values_of, first_values, FirstPromise, first_verdict_of, FirstPromiseOf}
use Rattle.pass_rules.proofs.{FirstAccepted.Entries, FirstAccepted.entries_passed, PassRows.none_judged, PassRows.one_judged}
use Rattle.pass_rules.proofs.WithinRange as range
use Rattle.pass_steps.specs.{Premises.Angles, Premises.Within, Steps.StoredIf, Steps.same_length, Steps.numerators_from}
use Rattle.pass_first.specs.Steps.{tenths_from, tenths_of, rests_from, FirstWork, work_of, with_rounds, first_from}
use Rattle.pass_steps.proofs.{Fitting.beside, Judged.kept}
use Rattle.pass_steps.proofs.StepLaws.{listed_at, listed_within, listed_after, condition_ext, numerator_ext}

-- ---- what the steps give from the misclosures are the values of the definitions

module _ (f : Figure) (angles fixed : List ℕ) where
  abbrev pub misclosures : List ℤ
  misclosures = misclosures_of f angles fixed

  pub numerator_is : (i : ℕ) → numerator f (vector misclosures) i ≡ first_numerator f angles fixed i
  unfolding first_numerator
  numerator_is i = numerator_ext f (vector misclosures) (misclosure f angles fixed) (λ j h. listed_at (condition_count f) (misclosure f angles fixed) j h) i

  pub tenths_is : (i : ℕ) → tenths_from f misclosures i ≡ first_rounded f angles fixed i
  unfolding first_rounded
  tenths_is i = ap (λ (z : ℤ). rounded_quotient z (denominator f)) (numerator_is i)

  abbrev tenths : List ℤ
  tenths = tenths_of f misclosures

  rest_is : (j : ℕ) → j < condition_count f → vector misclosures j +ℤ condition_sum f (vector tenths) j ≡ first_rest f angles fixed j
  unfolding first_rest
  rest_is j h =
      ap₂ ◌+ℤ◌ (listed_at (condition_count f) (misclosure f angles fixed) j h)
      (condition_ext f (vector tenths) (first_rounded f angles fixed) (λ i b. listed_at (angle_count f) (tenths_from f misclosures) i b ∙ tenths_is i) j h)

  module _ (as_many : length angles ≡ angle_count f) where
    results_are : results_of angles tenths ≡ listed (angle_count f) (corrected f angles fixed)
    unfolding corrected
    results_are =
        listed_after (angle_count f) (tenths_from f misclosures) tenths (λ i z. given angles i +ℤ z) refl as_many
        ∙ listed_ext (angle_count f) _ _ (λ i h. ap (λ (z : ℤ). given angles i +ℤ z) (tenths_is i))

    values_are : (rounds : List ℕ) → with_rounds (first_from f angles misclosures) rounds ≡ first_values_of f angles rounds fixed
    values_are rounds =
        let exact : numerators_from f misclosures ≡ numerators_of f angles fixed = listed_ext (angle_count f) _ _ (λ i h. numerator_is i) in
        let rounded : tenths ≡ rounded_of f angles fixed = listed_ext (angle_count f) _ _ (λ i h. tenths_is i) in
        let rests : rests_from f misclosures tenths ≡ rests_of f angles fixed = listed_ext (condition_count f) _ _ rest_is in
        λ i. first_lent misclosures (exact i) (rounded i)
        (listed_after (angle_count f) (corrected f angles fixed) (results_of angles tenths) (λ k z. nat_abs z) results_are as_many i)
        rounds (rests i)

-- ---- the rows, step by step

module _ (f : Figure) (limit : ℕ) (angles rounds fixed : List ℕ) (entry : FirstLent) where
  abbrev before : List Row
  before = given_rows f limit angles rounds fixed (first_slices angles rounds fixed entry)

  abbrev limit_row : Row
  limit_row = misclosures_row (limit_of limit) (misclosures_of f angles fixed)

  abbrev result_row : Row
  result_row = results_row (listed (angle_count f) (corrected f angles fixed))

  -- a row before the work holds
  pub refused_before : (v : Verdict) (r : Refusal) → v ≡ judged before → v ≡ Err r → FirstPromiseOf f limit angles rounds fixed entry v entry
  unfolding first_rows
  refused_before v r e refused =
      let answered : v ≡ first_verdict_of f limit angles rounds fixed entry =
      refused ∙ sym (judged_after_failure before (limit_row ∷ result_row ∷ []) r (sym e ∙ refused)) in
      record { answered = answered; leaves = kept _ _ _ r (sym answered ∙ refused) }

  module _ (passed : judged before ≡ Ok tt) where
    entries : Entries f limit angles rounds fixed (first_slices angles rounds fixed entry)
    entries = entries_passed f limit angles rounds fixed (first_slices angles rounds fixed entry) passed

    -- the length of a slice, by its place in the list
    pub length_at : (k : ℕ) → get_or (first_slices angles rounds fixed entry) k 0 ≡ get_or (first_lengths f) k 0
    length_at k = ap (λ (l : List ℕ). get_or l k 0) entries.lengths

    pub small_angles : Angles angles
    small_angles i = lt_of_le_of_lt (entries.angle_most i) (lit< tt)

    pub small_fixed : Angles fixed
    small_fixed i = lt_of_le_of_lt (entries.fixed_angle_most i) (lit< tt)

    after : first_verdict_of f limit angles rounds fixed entry ≡ judged (limit_row ∷ result_row ∷ [])
    unfolding first_rows
    after = judged_after_pass before (limit_row ∷ result_row ∷ []) passed

    -- number 6 holds
    pub refused_misclosure : (v : Verdict) (r : Refusal) → v ≡ verdict_of limit_row → v ≡ Err r → FirstPromiseOf f limit angles rounds fixed entry v entry
    refused_misclosure v r e refused =
        let answered : v ≡ first_verdict_of f limit angles rounds fixed entry =
        refused ∙ sym (after ∙ judged_after_failure (limit_row ∷ []) (result_row ∷ []) r (answer_of_one (verdict_of limit_row) ∙ sym e ∙ refused)) in
        record { answered = answered; leaves = kept _ _ _ r (sym answered ∙ refused) }

    module _ (within : verdict_of limit_row ≡ Ok tt) where
      one_passed : judged (limit_row ∷ []) ≡ Ok tt
      one_passed = answer_of_one (verdict_of limit_row) ∙ within

      pub small_misclosures : Within most_limit (misclosures_of f angles fixed)
      small_misclosures =
          listed_within (condition_count f) (misclosure f angles fixed) most_limit (λ j h. le_trans
          (range.misclosure_within (condition_count f) (misclosure f angles fixed) j h (limit_of limit) (none_holds (limit_row ∷ []) one_passed).0)
          (range.in_force_within 90 most_limit limit (lit≤ tt) entries.limit_range))

      verdict_is : verdict_of (results_row (results_of angles (tenths_of f (misclosures_of f angles fixed)))) ≡ first_verdict_of f limit angles rounds fixed entry
      verdict_is =
          ap (λ (l : List ℤ). verdict_of (results_row l)) (results_are f angles fixed (length_at 0))
          ∙ sym (after ∙ judged_after_pass (limit_row ∷ []) (result_row ∷ []) one_passed ∙ answer_of_one (verdict_of result_row))

      -- number 7 decides; the rounds are stored where it passes
      pub by_results : (w : List ℤ) → w ≡ misclosures_of f angles fixed → {answer : Verdict} {exit : FirstWork} {left : List ℕ}
          → StoredIf (verdict_of (results_row (results_of angles (tenths_of f w)))) (first_from f angles w) (work_of entry) answer exit
          → left ≡ stored answer (same_length rounds entry.corrected_rounds) entry.corrected_rounds
          → FirstPromiseOf f limit angles rounds fixed entry answer (with_rounds exit left)
      by_results w are {answer} {exit} {left} promise beside-them =
          let verdict = ap (λ (x : List ℤ). verdict_of (results_row (results_of angles (tenths_of f x)))) are ∙ verdict_is in
          let answered : answer ≡ first_verdict_of f limit angles rounds fixed entry = promise.answered ∙ verdict in
          let worked : exit ≡ stored answer (first_from f angles w) (work_of entry) =
          promise.leaves ∙ ap (λ (v : Verdict). stored v (first_from f angles w) (work_of entry)) (sym promise.answered) in
          let values = ap (λ (x : List ℤ). with_rounds (first_from f angles x) rounds) are ∙ values_are f angles fixed (length_at 0) rounds in
          record {
            answered = answered;
            leaves =
                beside with_rounds (first_from f angles w) (work_of entry) rounds entry.corrected_rounds answer
                (length_at 1 ∙ sym (length_at 7)) worked beside-them
                ∙ ap₂ (λ (v : Verdict) (new : FirstLent). stored v new entry) answered values;
          }

-- ---- and of code and n

module _ (given : FirstGiven) (entry : FirstLent) where
  abbrev rows : Figure → List Row
  rows f = first_rows f given.limit given.angles given.rounds given.fixed (first_lengths_lent given entry)

  pub none_named : figure_of given.code given.n ≡ None → FirstPromise given entry (Err Refusal.NoSuchFigure) entry
  unfolding first_pass_verdict first_pass_rows
  none_named e = record {
    answered = sym (none_judged given.code given.n rows e);
    leaves = sym (ap (λ (m : Option Figure). of_named m entry (λ f. stored (first_answer given entry) (first_values f given) entry)) e);
  }

  pub of_figure : (f : Figure) → figure_of given.code given.n ≡ Some f → {answer : Verdict} {exit : FirstLent}
      → FirstPromiseOf f given.limit given.angles given.rounds given.fixed entry answer exit → FirstPromise given entry answer exit
  unfolding first_pass_verdict first_pass_rows
  of_figure f named promise =
      let verdict = sym (one_judged given.code given.n rows named) in
      record {
        answered = promise.answered ∙ verdict;
        leaves =
            promise.leaves
            ∙ ap₂ (λ (m : Option Figure) (v : Verdict). of_named m entry (λ g. stored v (first_values g given) entry)) (sym named) verdict;
      }
