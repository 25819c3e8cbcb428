-- The rounded quotient: "nearest tenth", and "a half to the even tenth". Here document 02, M-105 overrides document 01, which has halves go
-- away from zero.
-- The exact value is a fraction, numerator over denominator, counted in tenths; what is nearest to it is a whole number of tenths.
use Rattle.std.specs.Prelude.{Bool, cond, ◌||◌, ◌&&◌, ℕ, zero, suc, ◌+◌, ◌*◌, ◌/◌, ◌%◌, ltb, eqb, ℤ, pos, negsuc, neg_ℤ, nat_abs}

-- Whether what a quotient leaves out counts as one more: where the remainder is more than half of the denominator d, or exactly half of
-- it and the quotient is odd.
abbrev pub one_more : (quotient remainder d : ℕ) → Bool
one_more quotient remainder d = ltb d (2 * remainder) || (eqb d (2 * remainder) && eqb (quotient % 2) 1)

-- The whole number nearest to n / d, at exactly a half the even one: n / d without its fraction, or one more. (`/` leaves the fraction out,
-- `%` is what it leaves.) A denominator of 0 gives 0.
unfoldable pub nearest : ℕ → ℕ → ℕ
nearest n zero = 0
nearest n (suc d) = cond (one_more (n / suc d) (n % suc d) (suc d)) (n / suc d + 1) (n / suc d)

-- The magnitude m with the sign of z: m where z is 0 or more, −m where z is less. (`negsuc n` is −(n + 1).)
abbrev pub with_sign : ℤ → ℕ → ℤ
with_sign (pos n) m = pos m
with_sign (negsuc n) m = neg_ℤ (pos m)

-- The magnitude of z, `nat_abs z`, is rounded, and the sign is given back: so a half goes to the even one on either side of zero.
unfoldable pub rounded_quotient : ℤ → ℕ → ℤ
rounded_quotient z d = with_sign z (nearest (nat_abs z) d)
