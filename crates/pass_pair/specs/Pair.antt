-- Two sine conditions together: document 02, M-100. "With A, B the reduced coefficients of pole and side and [AB] a sum of products, the
-- exact correction in tenths is −2400 times (A·([BB]·Wa − [AB]·Wb) + B·([AA]·Wb − [AB]·Wa)) over the determinant [AA][BB] −
-- [AB]²."
use Rattle.std.specs.Prelude.{cond, ℕ, ltb, ℤ, nat_abs, ◌+ℤ◌, ◌-ℤ◌, ◌*ℤ◌}
use Rattle.whole.specs.Quotient.{with_sign, rounded_quotient}
use Rattle.wide.specs.Wide.{held}
use Rattle.wide_words.specs.Words.{high_word, low_word, reached}
use Rattle.pass_pair.specs.declared.PairCorrection.{PairCorrection}

-- what A, and what B, is multiplied by
abbrev pub first_factor : (ab bb wa wb : ℤ) → ℤ
first_factor ab bb wa wb = bb *ℤ wa -ℤ ab *ℤ wb

abbrev pub second_factor : (aa ab wa wb : ℤ) → ℤ
second_factor aa ab wa wb = aa *ℤ wb -ℤ ab *ℤ wa

abbrev pub determinant : (aa ab bb : ℤ) → ℤ
determinant aa ab bb = aa *ℤ bb -ℤ ab *ℤ ab

-- the numerator of an angle with A and B; the factor is −2400, and −100·D of any figure
abbrev pub pair_numerator : (factor aa ab bb wa wb a b : ℤ) → ℤ
pair_numerator factor aa ab bb wa wb a b =
    factor *ℤ (a *ℤ first_factor ab bb wa wb +ℤ b *ℤ second_factor aa ab wa wb)

-- the same as it is worked, from the two factors: what two words hold of each product and sum
unfoldable pub held_numerator : (factor first second a b : ℤ) → ℤ
held_numerator factor first second a b = held (held (held (first *ℤ a) +ℤ held (second *ℤ b)) *ℤ factor)

-- The correction that counts: the rounded quotient up to `most_tenths` either way, and beyond that `most_tenths` with its sign. Any angle so
-- corrected is out of range.
abbrev pub most_tenths : ℕ
most_tenths = 1_300_000_000

unfoldable pub clamped_size : ℕ → ℕ
clamped_size n = cond (ltb n most_tenths) n most_tenths

unfoldable pub clamped : ℤ → ℤ
clamped z = with_sign z (clamped_size (nat_abs z))

-- An angle's numerator in two words, and its correction over the determinant.
unfoldable pub correction_from : (numerator : ℤ) → (divisor : ℕ) → PairCorrection
correction_from numerator divisor = record {
  high = high_word (reached numerator);
  low = low_word (reached numerator);
  tenths = clamped (rounded_quotient numerator divisor);
}
