-- Whole numbers wider than 64 bits: a sign, and a size of 128 bits. What such a number is worth, and what is held of a result that 128
-- bits cannot hold.
use Rattle.std.specs.Prelude.{Bool, true, false, cond, ℕ, ◌^◌, ltb, ℤ, pos, neg_ℤ, nat_abs}
use Rattle.vocabulary.specs.{mag}
use Rattle.whole.specs.Quotient.{with_sign}
use Rattle.wide.specs.declared.Wide.{Wide}

-- How many numbers a word of 64 bits can hold, and two such words.
unfoldable pub radix : ℕ
radix = 2 ^ 64

unfoldable pub limit : ℕ
limit = 2 ^ 128

-- The number of this size, below zero where it is marked so. (−0 is 0.)
unfoldable pub signed : Bool → ℕ → ℤ
signed false n = pos n
signed true n = neg_ℤ (pos n)

unfoldable pub value_of : Wide → ℤ
value_of a = signed a.negative a.size

-- A size that 128 bits cannot hold is held as 0; any other is itself.
unfoldable pub held_size : ℕ → ℕ
held_size n = cond (ltb n limit) n 0

-- A number keeps its sign, and its size where 128 bits hold it.
unfoldable pub held : ℤ → ℤ
held z = with_sign z (held_size (nat_abs z))

-- What one word with a sign holds of a number: the number from −2^63 to 2^63 − 1, and else 0. (`mag` counts 0, 1, 2, .. and −1,
-- −2, −3, .. alike from 0.)
unfoldable pub narrowed : ℤ → ℤ
narrowed z = cond (ltb (mag z) (2 ^ 63)) z (pos 0)
