-- What numbers 2, 6 and 7 say where they passed, and that they pass; and what is stored by a verdict. Assumes nothing.
use Rattle.std.specs.Prelude.{Err, Ok}
use Rattle.refusals.specs.Numbers.{Verdict}
use Rattle.std.specs.Prelude.{Bool, false, not, ◌||◌, ◌≡◌, List, [], ◌∷◌, ℕ, zero, suc, ◌≤◌, ◌<◌, ℤ, pos, negsuc, neg_ℤ, nat_abs, length}
use Rattle.std.specs.Prelude.{◌≤ℤ◌}
use Rattle.vocabulary.specs.{sym, ap, ap₂, ◌∙◌, subst, zero-le, dec_lt, le_of_suc-le-suc, not-suc-le-zero, arith, leb→le, le→leb}
use Rattle.vocabulary.specs.{list-get_or_eq_default}
use Rattle.whole.specs.Sums.{vector}
use Rattle.refusals.specs.{declared.Refusal.Refusal, Numbers.numbered, Numbers.refusal_of, Promise.stored}
use Rattle.refusals.specs.{Ranges.least_angle, Ranges.most_angle}
use Rattle.refusals.specs.{Order.Row, Order.verdict_of, Order.fails_if, Order.fails_at, Order.judged, Questions.asked, Questions.outside_signed}
use Rattle.refusals.specs.Table.{lengths_row, misclosures_row, results_row}
use Rattle.refusals.proofs.{Answers.answer_of_one, Decided.not_less_signed, InSteps.judged_after_pass, InSteps.judged_after_failure}
use Rattle.refusals.proofs.{Nowhere.misclosures_within, Nowhere.results_within, Nowhere.between, NumberLists.same_itself, Rows.row_passes}
use Rattle.refusals.proofs.Places.{lowest_is_nowhere}
use Rattle.pass_steps.specs.Premises.{Within}

-- ---- 2

pub lengths_pass : (lent own : List ℕ) → lent ≡ own → verdict_of (lengths_row lent own) ≡ Ok tt
lengths_pass lent own e =
    ap (λ (l : List ℕ). verdict_of (lengths_row l own)) e ∙ ap (λ (same : Bool). fails_if (not same) (refusal_of 2 0)) (same_itself own)

-- ---- 6

-- a magnitude of at most l lies between −l and l
least : (l : ℕ) (z : ℤ) → nat_abs z ≤ l → neg_ℤ (pos l) ≤ℤ z
least zero (pos n) h = record { le = le→leb 0 n zero-le }
least (suc l) (pos n) h = record { le = tt }
least zero (negsuc n) h = absurd (not-suc-le-zero h)
least (suc l) (negsuc n) h = record { le = le→leb n l (le_of_suc-le-suc h) }

most : (l : ℕ) (z : ℤ) → nat_abs z ≤ l → z ≤ℤ pos l
most l (pos n) h = record { le = le→leb n l h }
most l (negsuc n) h = record { le = tt }

not_outside : (l : ℕ) (z : ℤ) → nat_abs z ≤ l → asked (outside_signed (neg_ℤ (pos l)) (pos l) z) ≡ false
not_outside l z h = ap₂ ◌||◌ ((not_less_signed z (neg_ℤ (pos l))).1 (least l z h)) ((not_less_signed (pos l) z).1 (most l z h))

module _ (limit : ℕ) (w : List ℤ) where
  pub misclosures_small : verdict_of (misclosures_row limit w) ≡ Ok tt → Within limit w
  misclosures_small passed i = go (dec_lt i (length w))
    where
      go : Dec (i < length w) → nat_abs (vector w i) ≤ limit
      go (yes h) =
          let within = misclosures_within limit w (row_passes (misclosures_row limit w) passed) i h in
          between limit (vector w i) within.0 within.1
      go (no h) = subst (λ (z : ℤ). nat_abs z ≤ limit) (sym (list-get_or_eq_default w (pos 0) {n = i} (omega arith))) zero-le

  passes : Within limit w → (p : ℕ) → asked (outside_signed (neg_ℤ (pos limit)) (pos limit) (numbered w p (pos 0))) ≡ false
  passes small zero = not_outside limit (pos 0) zero-le
  passes small (suc i) = not_outside limit (vector w i) (small i)

  pub misclosures_pass : Within limit w → verdict_of (misclosures_row limit w) ≡ Ok tt
  misclosures_pass h = ap (fails_at (refusal_of 6)) ((lowest_is_nowhere (λ p. asked (outside_signed (neg_ℤ (pos limit)) (pos limit) (numbered w p (pos 0)))) (length w)).1 (λ p one within. passes h p))

-- ---- 7

module _ (results : List ℤ) (passed : verdict_of (results_row results) ≡ Ok tt) where
  pub results_in_range : (i : ℕ) → i < length results → (pos least_angle ≤ℤ vector results i) × (vector results i ≤ℤ pos most_angle)
  results_in_range = results_within results (row_passes (results_row results) passed)

-- an angle's range is of numbers from 0 up
pub result_most : (z : ℤ) → pos least_angle ≤ℤ z → z ≤ℤ pos most_angle → nat_abs z ≤ most_angle
result_most (pos n) low high = leb→le n most_angle high.le
result_most (negsuc n) low high = absurd low.le

-- ---- two rows

module _ (first second : Row) where
  pub first_fails : (r : Refusal) → verdict_of first ≡ Err r → judged (first ∷ second ∷ []) ≡ Err r
  first_fails r e = judged_after_failure (first ∷ []) (second ∷ []) r (answer_of_one (verdict_of first) ∙ e)

  pub first_passes : verdict_of first ≡ Ok tt → judged (first ∷ second ∷ []) ≡ verdict_of second
  first_passes e = judged_after_pass (first ∷ []) (second ∷ []) (answer_of_one (verdict_of first) ∙ e) ∙ answer_of_one (verdict_of second)

-- ---- what is stored

module _ {L : Type 0} (verdict : Verdict) (new entry : L) where
  -- a refusal leaves everything as it was
  pub kept : (r : Refusal) → verdict ≡ Err r → entry ≡ stored verdict new entry
  kept r e = sym (ap (λ (v : Verdict). stored v new entry) e)

  pub written : {exit : L} → verdict ≡ Ok tt → exit ≡ new → exit ≡ stored verdict new entry
  written e made = made ∙ sym (ap (λ (v : Verdict). stored v new entry) e)

  pub taken : verdict ≡ Ok tt → stored verdict new entry ≡ new
  taken e = ap (λ (v : Verdict). stored v new entry) e
