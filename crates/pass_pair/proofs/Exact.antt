-- That 128 bits hold every step of the numerator, from bounds of what goes in. Assumes nothing.
use Rattle.std.specs.Prelude.{◌≡◌, ℕ, ◌^◌, ◌≤◌, ◌<◌, ℤ, nat_abs, ◌+ℤ◌, ◌-ℤ◌, ◌*ℤ◌}
use Rattle.vocabulary.specs.{lt_of_le_of_lt, lit<, w64, SFits}
use Rattle.whole.specs.Quotient.{rounded_quotient}
use Rattle.whole.proofs.Magnitudes.{fits_magnitude}
use Rattle.whole.proofs.Ring.{ring, ◌≐◌, ◌⊕◌, ◌⊖◌, ◌⊗◌}
use Rattle.wide.specs.Wide.{held}
use Rattle.wide.proofs.Bounds.{stays, magnitude_reaches}
use Rattle.wide_words.specs.Words.{high_word, low_word, reached}
use Rattle.wide_words.proofs.Reaching.{reached_within}
use Rattle.pass_pair.specs.Pair.{first_factor, second_factor, pair_numerator, held_numerator, clamped, correction_from}
use Rattle.pass_pair.specs.declared.PairCorrection.{PairCorrection}

-- the difference of two products of 64-bit numbers
pub products_stay : (a b c d : ℤ) → nat_abs a ≤ 2 ^ 63 → nat_abs b ≤ 2 ^ 63 → nat_abs c ≤ 2 ^ 63 → nat_abs d ≤ 2 ^ 63
    → held (a *ℤ b -ℤ c *ℤ d) ≡ a *ℤ b -ℤ c *ℤ d
products_stay a b c d h k l m = stays 4 (λ a b c d. a ⊗ b ⊖ c ⊗ d) a (2 ^ 63) h b (2 ^ 63) k c (2 ^ 63) l d (2 ^ 63) m tt

pub difference_stays : (a b c d : ℤ) → SFits w64 a → SFits w64 b → SFits w64 c → SFits w64 d → held (a *ℤ b -ℤ c *ℤ d) ≡ a *ℤ b -ℤ c *ℤ d
difference_stays a b c d h k l m =
    products_stay a b c d (fits_magnitude w64 a h) (fits_magnitude w64 b k) (fits_magnitude w64 c l) (fits_magnitude w64 d m)

-- ---- The numerator

-- coefficients up to 2 ^ 28, their sums of products up to 2 ^ 60, and misclosures up to 2 ^ 18, as number 9 leaves them
pub record Bounded (factor aa ab bb wa wb a b : ℤ) : Type 0 where
  pub factor_few : nat_abs factor ≤ 4800
  pub aa_few : nat_abs aa ≤ 2 ^ 60
  pub ab_few : nat_abs ab ≤ 2 ^ 60
  pub bb_few : nat_abs bb ≤ 2 ^ 60
  pub wa_few : nat_abs wa ≤ 2 ^ 18
  pub wb_few : nat_abs wb ≤ 2 ^ 18
  pub a_few : nat_abs a ≤ 2 ^ 28
  pub b_few : nat_abs b ≤ 2 ^ 28

-- a numerator's own words, and its correction
abbrev pub exact_correction : (numerator : ℤ) → (divisor : ℕ) → PairCorrection
exact_correction numerator divisor = record {
  high = high_word numerator;
  low = low_word numerator;
  tenths = clamped (rounded_quotient numerator divisor);
}

-- a difference of products of a sum and a misclosure
factor_small : (x y wx wy : ℤ) → nat_abs x ≤ 2 ^ 60 → nat_abs y ≤ 2 ^ 60 → nat_abs wx ≤ 2 ^ 18 → nat_abs wy ≤ 2 ^ 18
    → nat_abs (x *ℤ wx -ℤ y *ℤ wy) ≤ 2 ^ 79
factor_small x y wx wy h k l m =
    magnitude_reaches 4 (λ x y wx wy. x ⊗ wx ⊖ y ⊗ wy) x (2 ^ 60) h y (2 ^ 60) k wx (2 ^ 18) l wy (2 ^ 18) m

-- the steps of the numerator, from what A and B are multiplied by
module _ (factor first second a b : ℤ) (f : nat_abs factor ≤ 4800) (h : nat_abs first ≤ 2 ^ 79) (k : nat_abs second ≤ 2 ^ 79)
    (l : nat_abs a ≤ 2 ^ 28) (m : nat_abs b ≤ 2 ^ 28) where
  abbrev share : ℤ
  share = first *ℤ a +ℤ second *ℤ b

  first_stays : held (first *ℤ a) ≡ first *ℤ a
  first_stays = stays 2 (λ x y. x ⊗ y) first (2 ^ 79) h a (2 ^ 28) l tt

  second_stays : held (second *ℤ b) ≡ second *ℤ b
  second_stays = stays 2 (λ x y. x ⊗ y) second (2 ^ 79) k b (2 ^ 28) m tt

  share_stays : held share ≡ share
  share_stays = stays 4 (λ x a y b. x ⊗ a ⊕ y ⊗ b) first (2 ^ 79) h a (2 ^ 28) l second (2 ^ 79) k b (2 ^ 28) m tt

  numerator_stays : held (share *ℤ factor) ≡ share *ℤ factor
  numerator_stays =
      stays 5 (λ f x a y b. (x ⊗ a ⊕ y ⊗ b) ⊗ f) factor 4800 f first (2 ^ 79) h a (2 ^ 28) l second (2 ^ 79) k b (2 ^ 28) m tt

  numerator_small : nat_abs (factor *ℤ (a *ℤ first +ℤ b *ℤ second)) < 2 ^ 127
  numerator_small =
      lt_of_le_of_lt
      (magnitude_reaches 5 (λ f x a y b. f ⊗ (a ⊗ x ⊕ b ⊗ y)) factor 4800 f first (2 ^ 79) h a (2 ^ 28) l second (2 ^ 79) k b (2 ^ 28) m)
      (lit< tt)

  numerator_worked : held_numerator factor first second a b ≡ factor *ℤ (a *ℤ first +ℤ b *ℤ second)
  unfolding held_numerator
  numerator_worked =
      rw (first_stays, second_stays, share_stays, numerator_stays)
      (ring 5 (λ f x a y b. (x ⊗ a ⊕ y ⊗ b) ⊗ f ≐ f ⊗ (a ⊗ x ⊕ b ⊗ y)) tt factor first a second b)

module _ {factor aa ab bb wa wb a b : ℤ} (few : Bounded factor aa ab bb wa wb a b) where
  first_small : nat_abs (first_factor ab bb wa wb) ≤ 2 ^ 79
  first_small = factor_small bb ab wa wb few.bb_few few.ab_few few.wa_few few.wb_few

  second_small : nat_abs (second_factor aa ab wa wb) ≤ 2 ^ 79
  second_small = factor_small aa ab wb wa few.aa_few few.ab_few few.wb_few few.wa_few

  pub pair_exact : held_numerator factor (first_factor ab bb wa wb) (second_factor aa ab wa wb) a b ≡ pair_numerator factor aa ab bb wa wb a b
  pair_exact =
      numerator_worked factor (first_factor ab bb wa wb) (second_factor aa ab wa wb) a b few.factor_few first_small second_small
      few.a_few few.b_few

  pub pair_small : nat_abs (pair_numerator factor aa ab bb wa wb a b) < 2 ^ 127
  pair_small =
      numerator_small factor (first_factor ab bb wa wb) (second_factor aa ab wa wb) a b few.factor_few first_small second_small
      few.a_few few.b_few

  pub pair_reached : reached (pair_numerator factor aa ab bb wa wb a b) ≡ pair_numerator factor aa ab bb wa wb a b
  pair_reached = reached_within (pair_numerator factor aa ab bb wa wb a b) pair_small

  -- what `pair_correction` answers of an angle
  pub correction_exact : (divisor : ℕ)
      → correction_from (held_numerator factor (first_factor ab bb wa wb) (second_factor aa ab wa wb) a b) divisor
      ≡ exact_correction (pair_numerator factor aa ab bb wa wb a b) divisor
  unfolding correction_from
  correction_exact divisor = rw (pair_exact, pair_reached)
