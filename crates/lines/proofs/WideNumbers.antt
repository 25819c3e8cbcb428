-- Numbers that are held as two words each, as a list of the high words and one of the low words, are those numbers. Assumes nothing.
use Rattle.std.specs.Prelude.{◌≡◌, refl, false, ℕ, zero, suc, ◌+◌, ◌*◌, ◌^◌, ℤ, pos}
use Rattle.vocabulary.specs.{◌∙◌}
use Rattle.whole.specs.{Lists.listed, Sums.vector}
use Rattle.wide.specs.Wide.{radix, value_of}
use Rattle.wide.proofs.Signs.{signed_above}
use Rattle.wide_words.specs.Words.{joined, high_word, low_word}
use Rattle.wide_words.proofs.Joining.{joined_words, joined_above}
use Rattle.lines.specs.Lines.{wide_numbers}

wide_at : (n : ℕ) (g : ℕ → ℤ) (i : ℕ)
    → wide_numbers (listed n (λ k. high_word (g k))) (listed n (λ k. low_word (g k))) i ≡ vector (listed n g) i
unfolding listed joined radix
wide_at zero g i = refl
wide_at (suc n) g zero = joined_words (g 0)
wide_at (suc n) g (suc i) = wide_at n (λ k. g (suc k)) i

-- as functions of the index
pub wide_listed : (n : ℕ) (g : ℕ → ℤ) → wide_numbers (listed n (λ k. high_word (g k))) (listed n (λ k. low_word (g k))) ≡ vector (listed n g)
wide_listed n g = λ k i. wide_at n g i k

-- what the two words of a divisor are worth
pub divisor_value : (high low : ℕ) → value_of (record { negative = false; size = high * 2 ^ 64 + low }) ≡ joined (pos high) low
unfolding value_of radix
divisor_value high low = signed_above (high * 2 ^ 64 + low) ∙ joined_above high low
