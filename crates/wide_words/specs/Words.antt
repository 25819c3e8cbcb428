-- A whole number as two words in two's complement: a high word with a sign, a low word without. What two words are worth, and which two
-- a number is.
use Rattle.std.specs.Prelude.{cond, ℕ, ◌-◌, ◌/◌, ◌%◌, ◌^◌, ltb, ℤ, pos, negsuc, ◌+ℤ◌, ◌*ℤ◌}
use Rattle.vocabulary.specs.{mag}
use Rattle.wide.specs.Wide.{radix}
use Rattle.wide_words.specs.declared.Words.{Words}

-- The number that two words are worth: high·2^64 + low.
unfoldable pub joined : (high : ℤ) → (low : ℕ) → ℤ
joined high low = high *ℤ pos radix +ℤ pos low

-- The words of a number: the quotient by 2^64, rounded down, and what is left, which is never below 0. (`negsuc n` is −(n + 1).)
unfoldable pub high_word : ℤ → ℤ
high_word (pos n) = pos (n / radix)
high_word (negsuc n) = negsuc (n / radix)

unfoldable pub low_word : ℤ → ℕ
low_word (pos n) = n % radix
low_word (negsuc n) = radix - 1 - n % radix

unfoldable pub words_from : ℤ → Words
words_from z = record { high = high_word z; low = low_word z }

-- What two words reach of a number: the number from −2^127 to 2^127 − 1, and else 0. (`mag` counts 0, 1, 2, .. and −1, −2, −3,
-- .. alike from 0.)
unfoldable pub reached : ℤ → ℤ
reached z = cond (ltb (mag z) (2 ^ 127)) z (pos 0)
