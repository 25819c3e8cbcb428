-- From the steps of a second pass to what it promises, of a figure that is named. Assumes nothing.
use Rattle.std.specs.Prelude.{Err}
use Rattle.pass_rules.specs.SecondPass.{SecondAnswer}
use Rattle.std.specs.Prelude.{Err, None, Ok, Option, Some}
use Rattle.refusals.specs.Numbers.{Verdict}
use Rattle.std.specs.Prelude.{Bool, true, false, cond, ◌≡◌, refl, List, [], ◌∷◌, ◌++◌, ℕ, ◌^◌, ◌≤◌, ◌<◌, ℤ, pos, nat_abs, get_or, ◌≤ℤ◌}
use Rattle.vocabulary.specs.{sym, ap, ap₂, ◌∙◌, subst, zero-le, lt_of_le_of_lt, arith, lit<}
use Rattle.whole.specs.{Lists.listed, Sums.dot, Sums.vector}
use Rattle.refusals.specs.{declared.Refusal.Refusal, Order.Row, Order.verdict_of, Order.judged, Promise.stored}
use Rattle.refusals.specs.Table.{results_row}
use Rattle.refusals.specs.Ranges.{most_difference, most_tolerance}
use Rattle.refusals.proofs.{Answers.answer_of_one, InSteps.judged_after_pass, InSteps.judged_after_failure, Nowhere.tolerance_kept}
use Rattle.refusals.proofs.Rows.{none_holds}
use Rattle.judging.specs.Searches.{results_of}
use Rattle.figures.specs.declared.Figure.{Figure}
use Rattle.figures.specs.Figure.{SineCondition, denominator, angle_count, pole, side, has_side, side_count, figure_of, of_named}
use Rattle.figures.proofs.Figures.{Signed, pole_signed, side_signed}
use Rattle.pass_pair.specs.declared.Pair.{Pair}
use Rattle.pass_rules.specs.Pass.{given}
use Rattle.pass_rules.specs.Promises.{SecondGiven, SecondLent, second_slices, second_lengths_lent, second_verdict, second_values_of, second_values, SecondPromise, second_verdict_of, SecondPromiseOf}
use Rattle.pass_rules.specs.SecondPass.{SineEntries, tolerance_of, reduced_in, misclosure_in, difference_squares_in, second_reduced, side_reduced, sine_misclosure, side_misclosure, sum_of_squares, side_squares, shared_products, divisor, second_adjusted, reduced_of, side_reduced_count, side_reduced_of, second_lengths, entry_rows, sine_rows, sine_rows_of, second_rows, second_pass_rows, second_pass_verdict, second_answer_of, second_answer_for, second_pass_answer}
use Rattle.pass_rules.proofs.{PassRows.one_judged, SecondAccepted.Entries, SecondAccepted.entries_passed, SecondAccepted.Kept}
use Rattle.pass_rules.proofs.SineSums.{pole_misclosure, no_misclosure}
use Rattle.pass_steps.specs.Premises.{Angles, LogSines, Within, most_misclosure, most_reduced}
use Rattle.pass_steps.specs.Steps.{same_length}
use Rattle.pass_steps.proofs.{Fitting.beside, StepLaws.listed_within}
use Rattle.pass_second.specs.{declared.sums.Sums.Sums, Sines.pair_of, Sines.sums_of}
use Rattle.pass_second.specs.Steps.{SmallPair, divisor_from, tenths_from, SecondWork, work_of, with_rounds, second_from}
use Rattle.pass_second.proofs.{SecondSteps.divisor_is, SecondSteps.results_same, SecondSteps.values_same, Tolerance.within_tolerance}
use Rattle.pass_second.proofs.SineBounds.{angles_magnitude, squares_natural, squares_magnitude, reduced_magnitude, products_magnitude}
use Rattle.pass_second.proofs.SumSteps.{both_misclosure, sides_magnitude}

-- ---- what is answered and what is stored

stored_same : (v : Verdict) (new own entry : SecondLent) → (v ≡ Ok tt → new ≡ own) → stored v new entry ≡ stored v own entry
stored_same (Ok tt) new own entry same = same refl
stored_same (Err refusal) new own entry same = refl

-- a sum that is 0 where there is no side condition
sum_small : (t : Bool) (z : ℤ) (most : ℕ) → nat_abs z ≤ most → nat_abs (cond t z (pos 0)) ≤ most
sum_small true z most small = small
sum_small false z most small = zero-le

-- ---- the rows, step by step

module _ (f : Figure) (tolerance : ℕ) (angles rounds : List ℕ) (e : SineEntries) (entry : SecondLent) where
  abbrev before : List Row
  before = entry_rows f tolerance angles rounds e (second_slices angles rounds e entry)

  abbrev pub sines : List Row
  sines = sine_rows_of f tolerance e

  abbrev result_row : Row
  result_row = results_row (listed (angle_count f) (second_adjusted f angles e))

  -- numbers 10 and 9, from the sums as they are worked
  pub sines_judged : (sides : ℕ) (sums : Sums) (d : ℕ) → sides ≡ side_count f → sums ≡ sums_of f e
      → pos d ≡ divisor_from sides sums.pair
      → judged (sine_rows tolerance (pos d) sums.pair.wa sums.difference_squares sums.pair.wb
      sums.side_difference_squares) ≡ judged sines
  sines_judged sides sums d sides-are sums_are d_is =
      let over : pos d ≡ divisor f e = d_is ∙ (λ i. divisor_from (sides-are i) (sums_are i).pair) ∙ divisor_is f e in
      λ i. judged (sine_rows tolerance (over i) (sums_are i).pair.wa (sums_are i).difference_squares (sums_are i).pair.wb
      (sums_are i).side_difference_squares)

  -- what follows once the verdict is known
  by_verdict : (v : Verdict) {exit : SecondLent} → second_verdict_of f tolerance angles rounds e entry ≡ v
      → exit ≡ stored v (second_values_of f angles rounds e) entry
      → SecondPromiseOf f tolerance angles rounds e entry (second_answer_for f e v) exit
  by_verdict v is left = record {
    answered = ap (second_answer_for f e) (sym is);
    leaves = left ∙ ap (λ (u : Verdict). stored u (second_values_of f angles rounds e) entry) (sym is);
  }

  -- a row before the work holds
  pub refused_before : (r : Refusal) → judged before ≡ Err r → SecondPromiseOf f tolerance angles rounds e entry (Err r) entry
  unfolding second_rows
  refused_before r refused = by_verdict (Err r) (judged_after_failure before (sines ++ (result_row ∷ [])) r refused) refl

  module _ (passed : judged before ≡ Ok tt) where
    entries : Entries f tolerance angles rounds e (second_slices angles rounds e entry)
    entries = entries_passed f tolerance angles rounds e (second_slices angles rounds e entry) passed

    -- the length of a slice, by its place in the list
    pub length_at : (k : ℕ) → get_or (second_slices angles rounds e entry) k 0 ≡ get_or (second_lengths f) k 0
    length_at k = ap (λ (l : List ℕ). get_or l k 0) entries.lengths

    pub small_angles : Angles angles
    small_angles i = lt_of_le_of_lt (entries.angle_most i) (lit< tt)

    pub small_log_sines : LogSines e.log_sines
    small_log_sines = entries.log_sine_most

    pub small_log_sides : LogSines e.log_sides
    small_log_sides = entries.log_side_most

    pub small_differences : Within most_difference e.differences
    small_differences = entries.difference_most (length_at 3 ∙ sym (length_at 2))

    pub small_tolerance : tolerance ≤ most_tolerance
    small_tolerance = entries.tolerance_range

    -- ---- how large W and the sum of d² of each sine condition are before number 9

    pub small_pole_misclosure : nat_abs (sine_misclosure f e) < 2 ^ 32
    small_pole_misclosure =
        let of-angles = angles_magnitude f (pole f).signs (λ i h. (pole_signed f).sign_small i) e.log_sines small_log_sines in
        subst (λ (z : ℤ). nat_abs z < 2 ^ 32) (sym (pole_misclosure f e)) (omega (arith, of-angles))

    pub small_side_misclosure : nat_abs (side_misclosure f e) < 2 ^ 32
    small_side_misclosure = go (has_side f) refl
      where
        go : (t : Bool) → has_side f ≡ t → nat_abs (side_misclosure f e) < 2 ^ 32
        go true both =
            let of-angles = angles_magnitude f (side f).signs (λ i h. (side_signed f).sign_small i) e.log_sines small_log_sines in
            subst (λ (z : ℤ). nat_abs z < 2 ^ 32) (sym (both_misclosure f e both))
            (sides_magnitude (dot (angle_count f) (vector (side f).signs) (given e.log_sines)) e.log_sides of-angles small_log_sides)
        go false one = subst (λ (z : ℤ). nat_abs z < 2 ^ 32) (sym (no_misclosure f e one)) (lit< tt)

    small_squares : (c : SineCondition) → Signed f c → (pos 0 ≤ℤ difference_squares_in f c e) × (nat_abs (difference_squares_in f c e) < 2 ^ 32)
    small_squares c signed = (squares_natural f c e, lt_of_le_of_lt (squares_magnitude f c signed e small_differences) (lit< tt))

    pub small_pole_squares : (pos 0 ≤ℤ difference_squares_in f (pole f) e) × (nat_abs (difference_squares_in f (pole f) e) < 2 ^ 32)
    small_pole_squares = small_squares (pole f) (pole_signed f)

    pub small_side_squares : (pos 0 ≤ℤ difference_squares_in f (side f) e) × (nat_abs (difference_squares_in f (side f) e) < 2 ^ 32)
    small_side_squares = small_squares (side f) (side_signed f)

    -- ---- A and B

    pub small_reduced : Within most_reduced (reduced_of f e)
    small_reduced =
        listed_within (angle_count f) (second_reduced f e) most_reduced
        (λ i h. reduced_magnitude f (pole f) (pole_signed f) e small_differences i)

    pub small_side_reduced : Within most_reduced (side_reduced_of f e)
    small_side_reduced =
        listed_within (side_reduced_count f) (side_reduced f e) most_reduced
        (λ i h. reduced_magnitude f (side f) (side_signed f) e small_differences i)

    after : second_verdict_of f tolerance angles rounds e entry ≡ judged (sines ++ (result_row ∷ []))
    unfolding second_rows
    after = judged_after_pass before (sines ++ (result_row ∷ [])) passed

    -- number 10 or number 9 holds
    pub refused_sines : (r : Refusal) → judged sines ≡ Err r → SecondPromiseOf f tolerance angles rounds e entry (Err r) entry
    refused_sines r refused = by_verdict (Err r) (after ∙ judged_after_failure sines (result_row ∷ []) r refused) refl

    module _ (within : judged sines ≡ Ok tt) where
      -- number 9 passed for a sine condition
      misclosure_most : (c : SineCondition) → Signed f c → Kept f tolerance c e → nat_abs (misclosure_in f c e) ≤ most_misclosure
      misclosure_most c signed kept =
          within_tolerance (misclosure_in f c e) tolerance (difference_squares_in f c e) small_tolerance (squares_natural f c e)
          (squares_magnitude f c signed e small_differences) kept

      products_most : (c g : SineCondition) → Signed f c → Signed f g
          → nat_abs (dot (angle_count f) (reduced_in f c e) (reduced_in f g e)) ≤ 2 ^ 60
      products_most c g own other =
          products_magnitude f (reduced_in f c e) (reduced_in f g e) (reduced_magnitude f c own e small_differences)
          (reduced_magnitude f g other e small_differences)

      pub small_pair : SmallPair (pair_of f e)
      unfolding sum_of_squares shared_products side_squares
      small_pair =
          let none = none_holds sines within in
          record {
            aa_small = products_most (pole f) (pole f) (pole_signed f) (pole_signed f);
            ab_small = sum_small (has_side f) (shared_products f e) (2 ^ 60)
                (products_most (pole f) (side f) (pole_signed f) (side_signed f));
            bb_small = sum_small (has_side f) (side_squares f e) (2 ^ 60)
                (products_most (side f) (side f) (side_signed f) (side_signed f));
            wa_small = misclosure_most (pole f) (pole_signed f)
                (tolerance_kept (tolerance_of tolerance) (sine_misclosure f e) (difference_squares_in f (pole f) e) none.1.0);
            wb_small = misclosure_most (side f) (side_signed f)
                (tolerance_kept (tolerance_of tolerance) (side_misclosure f e) (difference_squares_in f (side f) e) none.1.1.0);
          }

      -- number 7 decides
      module _ (sides : ℕ) (p : Pair) (a b : List ℤ) (sides-are : sides ≡ side_count f) (p-is : p ≡ pair_of f e) (a_is : a ≡ reduced_of f e)
          (b_is : b ≡ side_reduced_of f e) where
        verdict_is : verdict_of (results_row (results_of angles (tenths_from (denominator f) sides p a b)))
            ≡ second_verdict_of f tolerance angles rounds e entry
        verdict_is =
            (λ i. verdict_of (results_row (results_of angles (tenths_from (denominator f) (sides-are i) (p-is i) (a_is i) (b_is i)))))
            ∙ results_same f e angles (length_at 0) small_angles
            ∙ sym (after ∙ judged_after_pass sines (result_row ∷ []) within ∙ answer_of_one (verdict_of result_row))

        values_are : second_verdict_of f tolerance angles rounds e entry ≡ Ok tt
            → with_rounds (second_from f angles sides p a b) rounds ≡ second_values_of f angles rounds e
        values_are done =
            let ready =
            sym (λ i. verdict_of (results_row (results_of angles (tenths_from (denominator f) (sides-are i) (p-is i) (a_is i) (b_is i)))))
            ∙ verdict_is ∙ done in
            (λ i. with_rounds (second_from f angles (sides-are i) (p-is i) (a_is i) (b_is i)) rounds)
            ∙ values_same f e angles (length_at 0) small_angles ready rounds

        pub by_results : (d : ℕ) → pos d ≡ divisor_from sides p → {answer : Verdict} {exit : SecondWork} {left : List ℕ}
            → answer ≡ verdict_of (results_row (results_of angles (tenths_from (denominator f) sides p a b)))
            → exit ≡ stored (verdict_of (results_row (results_of angles (tenths_from (denominator f) sides p a b))))
            (second_from f angles sides p a b) (work_of entry)
            → left ≡ stored answer (same_length rounds entry.adjusted_rounds) entry.adjusted_rounds
            → SecondPromiseOf f tolerance angles rounds e entry (second_answer_of answer p.wa p.wb (pos d)) (with_rounds exit left)
        by_results d d_is {answer} {exit} answered left beside-them =
            let new = second_from f angles sides p a b in
            let worked : exit ≡ stored answer new (work_of entry) = left ∙ ap (λ (u : Verdict). stored u new (work_of entry)) (sym answered) in
            let is : answer ≡ second_verdict_of f tolerance angles rounds e entry = answered ∙ verdict_is in
            let over : pos d ≡ divisor f e = d_is ∙ (λ i. divisor_from (sides-are i) (p-is i)) ∙ divisor_is f e in
            record {
              answered = λ i. second_answer_of (is i) (p-is i).wa (p-is i).wb (over i);
              leaves =
                  beside with_rounds new (work_of entry) rounds entry.adjusted_rounds answer (length_at 1 ∙ sym (length_at 11)) worked beside-them
                  ∙ ap (λ (u : Verdict). stored u (with_rounds new rounds) entry) is
                  ∙ stored_same (second_verdict_of f tolerance angles rounds e entry) (with_rounds new rounds)
                  (second_values_of f angles rounds e) entry values_are;
            }

-- ---- and of code and n

module _ (sheet : SecondGiven) (entry : SecondLent) where
  abbrev rows : Figure → List Row
  rows f = second_rows f sheet.tolerance sheet.angles sheet.rounds sheet.entries (second_lengths_lent sheet entry)

  abbrev answer_for : Verdict → Figure → SecondAnswer
  answer_for v f = second_answer_for f sheet.entries v

  pub none_named : figure_of sheet.code sheet.n ≡ None → SecondPromise sheet entry (Err Refusal.NoSuchFigure) entry
  unfolding second_pass_answer
  none_named e = record {
    answered =
        sym (ap (λ (m : Option Figure). of_named m (Err Refusal.NoSuchFigure) (answer_for (second_verdict sheet entry))) e);
    leaves = sym (ap (λ (m : Option Figure). of_named m entry (λ f. stored (second_verdict sheet entry) (second_values f sheet) entry)) e);
  }

  pub of_figure : (f : Figure) → figure_of sheet.code sheet.n ≡ Some f → {answer : SecondAnswer} {exit : SecondLent}
      → SecondPromiseOf f sheet.tolerance sheet.angles sheet.rounds sheet.entries entry answer exit → SecondPromise sheet entry answer exit
  unfolding second_pass_answer second_pass_verdict second_pass_rows
  of_figure f named promise =
      let verdict = sym (one_judged sheet.code sheet.n rows named) in
      record {
        answered =
            promise.answered
            ∙ ap₂ (λ (m : Option Figure) (v : Verdict). of_named m (Err Refusal.NoSuchFigure) (answer_for v))
            (sym named) verdict;
        leaves =
            promise.leaves
            ∙ ap₂ (λ (m : Option Figure) (v : Verdict). of_named m entry (λ g. stored v (second_values g sheet) entry)) (sym named) verdict;
      }
