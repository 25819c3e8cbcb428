-- What an accepted second pass says of its sheet, row by row, and how large its numbers then are. Assumes nothing.
use Rattle.std.specs.Prelude.{Ok}
use Rattle.std.specs.Prelude.{List, [], ◌∷◌, ◌++◌, ◌≡◌, refl, ℕ, zero, suc, ◌+◌, ◌*◌, ◌≤◌, ◌<◌, ℤ, pos, negsuc, neg_ℤ, nat_abs, ◌-ℤ◌, ◌*ℤ◌}
use Rattle.std.specs.Prelude.{length, get_or, ◌≤ℤ◌}
use Rattle.vocabulary.specs.{sym, subst, zero-le, dec_lt, arith, length-append, list-get_or_append, list-get_or_eq_default}
use Rattle.vocabulary.specs.{get_or-append-add}
use Rattle.whole.specs.{Lists.listed, Sums.vector}
use Rattle.whole.proofs.{Magnitudes.nat_abs_sub, Ring.ring, Ring.◌≐◌, Ring.◌⊕◌, Ring.◌⊖◌}
use Rattle.refusals.specs.{Order.Row, Order.judged, Table.results_row}
use Rattle.refusals.specs.Ranges.{least_angle, most_angle, least_rounds, most_rounds, most_log_sine, most_difference, most_tolerance}
use Rattle.refusals.proofs.{InSteps.both_parts, Rows.none_holds}
use Rattle.refusals.proofs.Nowhere.{same_lengths, limit_within, tolerance_kept, squares_not_zero, angles_most, rounds_within, log_sines_most, differences_within, between}
use Rattle.figures.specs.{declared.Figure.Figure, Figure.SineCondition, Figure.angle_count, Figure.condition_count, Figure.pole, Figure.side}
use Rattle.figures.specs.Numerators.{most_members}
use Rattle.figures.proofs.Figures.{member_count}
use Rattle.pass_rules.specs.Pass.{given}
use Rattle.pass_rules.specs.SecondPass.{SineEntries, tolerance_of, misclosure_in, difference_squares_in, sine_misclosure, side_misclosure, divisor, second_rounded, second_adjusted, second_rest, second_lengths, entry_rows, sine_rows_of, second_rows}
use Rattle.pass_rules.proofs.SecondLaws.{rest_half}
use Rattle.pass_rules.proofs.WithinRange as range

not_zero : (z : ℤ) → (z ≡ pos 0 → ⊥) → 0 < nat_abs z
not_zero (pos zero) h = absurd (h refl)
not_zero (pos (suc n)) h = omega arith
not_zero (negsuc n) h = omega arith

-- of two lists one after the other, the first
first_most : (xs ys : List ℕ) (most : ℕ) → ((i : ℕ) → get_or (xs ++ ys) i 0 ≤ most) → (i : ℕ) → get_or xs i 0 ≤ most
first_most xs ys most within i = go (dec_lt i (length xs))
  where
    go : Dec (i < length xs) → get_or xs i 0 ≤ most
    go (yes h) = subst (λ (n : ℕ). n ≤ most) (list-get_or_append xs ys 0 i h) (within i)
    go (no h) = subst (λ (n : ℕ). n ≤ most) (sym (list-get_or_eq_default xs 0 {n = i} (omega arith))) zero-le

-- numbers that are small as far as a list of them goes
small_first : (xs : List ℤ) (n most : ℕ) → length xs ≤ n → ((i : ℕ) → i < n → (neg_ℤ (pos most) ≤ℤ vector xs i) × (vector xs i ≤ℤ pos most))
    → (i : ℕ) → nat_abs (vector xs i) ≤ most
small_first xs n most few within i = go (dec_lt i (length xs))
  where
    go : Dec (i < length xs) → nat_abs (vector xs i) ≤ most
    go (yes h) = let at = within i (omega (arith, few)) in between most (vector xs i) at.0 at.1
    go (no h) = subst (λ (z : ℤ). nat_abs z ≤ most) (sym (list-get_or_eq_default xs (pos 0) {n = i} (omega arith))) zero-le

-- number 9 passes for a sine condition
abbrev pub Kept : Figure → (tolerance : ℕ) → SineCondition → SineEntries → Type 0
Kept f tolerance c e =
    (pos 100 *ℤ (misclosure_in f c e *ℤ misclosure_in f c e)) ≤ℤ (pos (tolerance_of tolerance * tolerance_of tolerance) *ℤ difference_squares_in f c e)

module _ (f : Figure) (tolerance : ℕ) (angles rounds : List ℕ) (e : SineEntries) (lent : List ℕ) where
  -- what the rows say that ask for no work
  pub record Entries : Type 0 where
    pub lengths : lent ≡ second_lengths f
    pub tolerance_range : tolerance ≤ most_tolerance
    pub angle_most : (i : ℕ) → get_or angles i 0 ≤ most_angle
    pub rounds_range : (i : ℕ) → i < length rounds → (least_rounds ≤ get_or rounds i 0) × (get_or rounds i 0 ≤ most_rounds)
    pub log_sine_most : (i : ℕ) → get_or e.log_sines i 0 ≤ most_log_sine
    pub log_side_most : (i : ℕ) → get_or e.log_sides i 0 ≤ most_log_sine
    pub difference_most : length e.differences ≡ length e.log_sines → (i : ℕ) → nat_abs (vector e.differences i) ≤ most_difference

  pub entries_passed : judged (entry_rows f tolerance angles rounds e lent) ≡ Ok tt → Entries
  entries_passed passed =
      let none = none_holds (entry_rows f tolerance angles rounds e lent) passed in
      let most = log_sines_most (e.log_sines ++ e.log_sides) e.differences none.1.1.1.1.0 in
      record {
        lengths = same_lengths lent (second_lengths f) none.0;
        tolerance_range = limit_within most_tolerance tolerance none.1.0;
        angle_most = angles_most angles none.1.1.0;
        rounds_range = rounds_within most_rounds rounds none.1.1.1.0;
        log_sine_most = first_most e.log_sines e.log_sides most_log_sine most;
        log_side_most = λ i. subst (λ (n : ℕ). n ≤ most_log_sine) (get_or-append-add e.log_sines e.log_sides i 0) (most (length e.log_sines + i));
        difference_most = λ same. small_first e.differences (length (e.log_sines ++ e.log_sides)) most_difference
            (omega (arith, same, length-append e.log_sines e.log_sides))
            (differences_within (e.log_sines ++ e.log_sides) e.differences none.1.1.1.1.0);
      }

  -- and the others
  pub record Accepted : Type 0 where
    pub entries : Entries
    pub divisor_positive : 0 < nat_abs (divisor f e)
    pub within_tolerance : Kept f tolerance (pole f) e
    pub side_within_tolerance : Kept f tolerance (side f) e
    pub result_within : (i : ℕ) → i < angle_count f → (pos least_angle ≤ℤ second_adjusted f angles e i) × (second_adjusted f angles e i ≤ℤ pos most_angle)

  abbrev work_rows : List Row
  work_rows = sine_rows_of f tolerance e ++ (results_row (listed (angle_count f) (second_adjusted f angles e)) ∷ [])

  pub accepted : judged (second_rows f tolerance angles rounds e lent) ≡ Ok tt → Accepted
  unfolding second_rows
  accepted passed =
      let parts = both_parts (entry_rows f tolerance angles rounds e lent) work_rows passed in
      let none = none_holds work_rows parts.1 in
      record {
        entries = entries_passed parts.0;
        divisor_positive = not_zero (divisor f e) (squares_not_zero (divisor f e) none.0);
        within_tolerance = tolerance_kept (tolerance_of tolerance) (sine_misclosure f e) (difference_squares_in f (pole f) e) none.1.0;
        side_within_tolerance = tolerance_kept (tolerance_of tolerance) (side_misclosure f e) (difference_squares_in f (side f) e) none.1.1.0;
        result_within = λ i h. range.result_within (angle_count f) (second_adjusted f angles e) i h none.1.1.1.0;
      }

  -- ---- how large the numbers of an accepted sheet are

  module _ (ok : Accepted) where
    pub result_most : (i : ℕ) → i < angle_count f → nat_abs (second_adjusted f angles e i) ≤ most_angle
    result_most i h = range.angle_most (second_adjusted f angles e i) (ok.result_within i h).0 (ok.result_within i h).1

    -- a rounded correction is the difference of two angles within range
    pub rounded_most : (i : ℕ) → i < angle_count f → nat_abs (second_rounded f e i) ≤ most_angle + most_angle
    unfolding second_adjusted
    rounded_most i h =
        let apart : second_rounded f e i ≡ second_adjusted f angles e i -ℤ given angles i = ring 2 (λ a r. r ≐ a ⊕ r ⊖ a) tt (given angles i) (second_rounded f e i) in
        rw apart (omega (arith, nat_abs_sub (second_adjusted f angles e i) (given angles i), result_most i h, ok.entries.angle_most i))

    pub rest_most : (j : ℕ) → j < condition_count f → nat_abs (second_rest f e j) ≤ most_members
    rest_most j h = omega (arith, rest_half f e j h ok.divisor_positive, member_count f j h)
