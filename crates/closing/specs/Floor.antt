-- Division downwards, also below zero: what it gives, and what it leaves over, from 0 to d − 1. Division upwards is that turned round.
use Rattle.std.specs.Prelude.{ℕ, ◌-◌, ◌/◌, ◌%◌, ℤ, pos, negsuc, neg_ℤ}

-- −1 − n is −1 − n / d times d, and what is over
abbrev pub floor_quotient : ℤ → (d : ℕ) → ℤ
floor_quotient (pos n) d = pos (n / d)
floor_quotient (negsuc n) d = negsuc (n / d)

abbrev pub ceiling_quotient : ℤ → (d : ℕ) → ℤ
ceiling_quotient z d = neg_ℤ (floor_quotient (neg_ℤ z) d)

abbrev pub floor_remainder : ℤ → (d : ℕ) → ℕ
floor_remainder (pos n) d = n % d
floor_remainder (negsuc n) d = d - 1 - n % d
