-- What it says of the values that a row holds nowhere: they are as the table wants them. Assumes nothing.
use Rattle.std.specs.Prelude.{ℕ, zero, suc, ◌*◌, ◌≤◌, ◌<◌, false, List, [], ◌≡◌, refl, ℤ, pos, negsuc, neg_ℤ, nat_abs, ◌*ℤ◌, length, get_or}
use Rattle.std.specs.Prelude.{◌≤ℤ◌}
use Rattle.vocabulary.specs.{zero-le, suc-le-suc, inl, inr, dec_lt, arith, not-false, leb→le, list-get_or_eq_default}
use Rattle.refusals.specs.{Numbers.numbered, Order.row, Order.row_at, Order.HoldsNowhere}
use Rattle.refusals.specs.Questions.{Question, less_signed, unequal, differ, outside, outside_signed, Holds, asked, same_numbers}
use Rattle.refusals.specs.Ranges.{least_angle, most_angle, least_log_sine, most_log_sine, most_difference, least_rounds}
use Rattle.refusals.specs.Table.{lengths_row, limit_or_tolerance_row, angles_row, fixed_row, misclosures_row, results_row, sine_entries_row, sine_misclosure_row, sum_of_squares_row, sheet_size_row, sum_of_all, fixed_sum, fixed_sum_row, rounds_row}
use Rattle.refusals.proofs.{Decided.decided_not, Decided.not_less_signed, NumberLists.same_lists}

-- ---- rows without a place

not_asked : (k : ℕ) (q : Question) → HoldsNowhere (row k q) → asked q ≡ false
not_asked k q none = (decided_not q).1 (λ holds. none 0 (refl, holds))

-- 2
pub same_lengths : (lent own : List ℕ) → HoldsNowhere (lengths_row lent own) → lent ≡ own
same_lengths lent own none = same_lists lent own (not-false (same_numbers lent own) (not_asked 2 (differ lent own) none))

-- 3
pub limit_within : (most value : ℕ) → HoldsNowhere (limit_or_tolerance_row most value) → value ≤ most
limit_within most value none =
    let not_more : ¬ (most < value) = λ more. none 0 (refl, more) in
    omega arith

-- 9
pub tolerance_kept : (e : ℕ) (w squares : ℤ) → HoldsNowhere (sine_misclosure_row e w squares) → (pos 100 *ℤ (w *ℤ w)) ≤ℤ (pos (e * e) *ℤ squares)
tolerance_kept e w squares none = (not_less_signed _ _).0 (not_asked 9 (less_signed (pos (e * e) *ℤ squares) (pos 100 *ℤ (w *ℤ w))) none)

-- 10
pub squares_not_zero : (s : ℤ) → HoldsNowhere (sum_of_squares_row s) → s ≡ pos 0 → ⊥
squares_not_zero s none is_zero = none 0 (refl, is_zero)

are_equal : (k a b : ℕ) → HoldsNowhere (row k (unequal a b)) → a ≡ b
are_equal k a b none =
    let is : ¬ (a ≡ b → ⊥) = λ differs. none 0 (refl, differs) in
    go (dec_lt a b) (dec_lt b a) is
  where
    go : Dec (a < b) → Dec (b < a) → ¬ (a ≡ b → ⊥) → a ≡ b
    go (yes less) more is = absurd (is (λ e. omega arith))
    go (no less) (yes more) is = absurd (is (λ e. omega arith))
    go (no less) (no more) is = omega arith

-- 12
pub size_right : (size own : ℕ) → HoldsNowhere (sheet_size_row size own) → size ≡ own
size_right = are_equal 12

-- 14
pub fixed_summed : (fixed : List ℕ) → HoldsNowhere (fixed_sum_row fixed) → sum_of_all fixed ≡ fixed_sum (length fixed)
fixed_summed fixed = are_equal 14 (sum_of_all fixed) (fixed_sum (length fixed))

-- a sheet without fixed angles is never given it
pub nothing_to_sum : HoldsNowhere (fixed_sum_row [])
nothing_to_sum p held = held.1 refl

-- ---- values within their range

module _ (k least most : ℕ) (values : List ℕ)
    (none : HoldsNowhere (row_at k (length values) (λ p. outside least most (numbered values p 0)))) where
  values_within : (i : ℕ) → i < length values → (least ≤ get_or values i 0) × (get_or values i 0 ≤ most)
  values_within i h =
      let not-less : ¬ (get_or values i 0 < least) = λ less. none (suc i) (suc-le-suc zero-le, h, inl less) in
      let not_more : ¬ (most < get_or values i 0) = λ more. none (suc i) (suc-le-suc zero-le, h, inr more) in
      (omega arith, omega arith)

-- past the end a list reads 0
past_end : (values : List ℕ) (most : ℕ) → ((i : ℕ) → i < length values → get_or values i 0 ≤ most) → (i : ℕ) → get_or values i 0 ≤ most
past_end values most within i = go (dec_lt i (length values))
  where
    go : Dec (i < length values) → get_or values i 0 ≤ most
    go (yes h) = within i h
    go (no h) = rw (list-get_or_eq_default values 0 {n = i} (omega arith)) zero-le

signed_within : (least most value : ℤ) → (Holds (outside_signed least most value) → ⊥) → (least ≤ℤ value) × (value ≤ℤ most)
signed_within least most value none = (
  (not_less_signed value least).0 ((decided_not (less_signed value least)).1 (λ less. none (inl less))),
  (not_less_signed most value).0 ((decided_not (less_signed most value)).1 (λ more. none (inr more))),
)

module _ (k : ℕ) (least most : ℤ) (values : List ℤ)
    (none : HoldsNowhere (row_at k (length values) (λ p. outside_signed least most (numbered values p (pos 0))))) where
  signed_values_within : (i : ℕ) → i < length values → (least ≤ℤ get_or values i (pos 0)) × (get_or values i (pos 0) ≤ℤ most)
  signed_values_within i h = signed_within least most (get_or values i (pos 0)) (λ out. none (suc i) (suc-le-suc zero-le, h, out))

-- 4
module _ (angles : List ℕ) (none : HoldsNowhere (angles_row angles)) where
  pub angles_within : (i : ℕ) → i < length angles → (least_angle ≤ get_or angles i 0) × (get_or angles i 0 ≤ most_angle)
  angles_within = values_within 4 least_angle most_angle angles none

  pub angles_most : (i : ℕ) → get_or angles i 0 ≤ most_angle
  angles_most = past_end angles most_angle (λ i h. (angles_within i h).1)

-- 5
module _ (fixed : List ℕ) (none : HoldsNowhere (fixed_row fixed)) where
  pub fixed_within : (i : ℕ) → i < length fixed → (least_angle ≤ get_or fixed i 0) × (get_or fixed i 0 ≤ most_angle)
  fixed_within = values_within 5 least_angle most_angle fixed none

  pub fixed_most : (i : ℕ) → get_or fixed i 0 ≤ most_angle
  fixed_most = past_end fixed most_angle (λ i h. (fixed_within i h).1)

-- 6
pub misclosures_within : (limit : ℕ) (misclosures : List ℤ) → HoldsNowhere (misclosures_row limit misclosures)
    → (j : ℕ) → j < length misclosures → (neg_ℤ (pos limit) ≤ℤ get_or misclosures j (pos 0)) × (get_or misclosures j (pos 0) ≤ℤ pos limit)
misclosures_within limit misclosures none = signed_values_within 6 (neg_ℤ (pos limit)) (pos limit) misclosures none

-- 7
pub results_within : (results : List ℤ) → HoldsNowhere (results_row results)
    → (i : ℕ) → i < length results → (pos least_angle ≤ℤ get_or results i (pos 0)) × (get_or results i (pos 0) ≤ℤ pos most_angle)
results_within results none = signed_values_within 7 (pos least_angle) (pos most_angle) results none

-- between −l and l is a magnitude of at most l
pub between : (l : ℕ) (z : ℤ) → neg_ℤ (pos l) ≤ℤ z → z ≤ℤ pos l → nat_abs z ≤ l
between l (pos n) low high = leb→le n l high.le
between zero (negsuc n) low high = absurd low.le
between (suc l) (negsuc n) low high = omega (arith, leb→le n l low.le)

-- 8
module _ (log_sines : List ℕ) (differences : List ℤ) (none : HoldsNowhere (sine_entries_row log_sines differences)) where
  pub log_sines_within : (i : ℕ) → i < length log_sines → (least_log_sine ≤ get_or log_sines i 0) × (get_or log_sines i 0 ≤ most_log_sine)
  log_sines_within i h =
      let not-less : ¬ (get_or log_sines i 0 < least_log_sine) = λ less. none (suc i) (suc-le-suc zero-le, h, inl (inl less)) in
      let not_more : ¬ (most_log_sine < get_or log_sines i 0) = λ more. none (suc i) (suc-le-suc zero-le, h, inl (inr more)) in
      (omega arith, omega arith)

  pub differences_within : (i : ℕ) → i < length log_sines
      → (neg_ℤ (pos most_difference) ≤ℤ get_or differences i (pos 0)) × (get_or differences i (pos 0) ≤ℤ pos most_difference)
  differences_within i h =
      signed_within (neg_ℤ (pos most_difference)) (pos most_difference) (get_or differences i (pos 0)) (λ out. none (suc i) (suc-le-suc zero-le, h, inr out))

  pub log_sines_most : (i : ℕ) → get_or log_sines i 0 ≤ most_log_sine
  log_sines_most = past_end log_sines most_log_sine (λ i h. (log_sines_within i h).1)

-- 16
pub rounds_within : (most : ℕ) (rounds : List ℕ) → HoldsNowhere (rounds_row most rounds)
    → (i : ℕ) → i < length rounds → (least_rounds ≤ get_or rounds i 0) × (get_or rounds i 0 ≤ most)
rounds_within most rounds = values_within 16 least_rounds most rounds
