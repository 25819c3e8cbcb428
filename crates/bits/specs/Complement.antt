-- What two's complement of a width from 1 to 32 is. Document 01, "Packed sheets", of kind 2: "15 sine difference in two's complement".
use Rattle.std.specs.Prelude.{cond, Bool, ◌&&◌, ℕ, ◌-◌, ◌*◌, ◌^◌, leb, ltb, ℤ, pos, neg_ℤ, ◌-ℤ◌, nat_abs}
use Rattle.vocabulary.specs.{le_z, lt_z, non_neg}

-- half the range of a width: of its numbers as many are negative as are not. No other width has any
unfoldable pub half_range : ℕ → ℕ
half_range w = cond (leb 1 w && leb w 32) (2 ^ (w - 1)) 0

-- the number that v stands for in w bits: the upper half of the range stands for the negative numbers. 0 where v is beyond the range
unfoldable pub signed_of : ℕ → ℕ → ℤ
signed_of w v =
    cond (ltb v (half_range w)) (pos v) (cond (ltb v (2 * half_range w)) (pos v -ℤ pos (2 * half_range w)) (pos 0))

-- w bits hold z
unfoldable pub fits_signed : ℕ → ℤ → Bool
fits_signed w z = le_z (neg_ℤ (pos (half_range w))) z && lt_z z (pos (half_range w))

-- what stands for z in w bits: z, or the range less the size of z where z is negative. 0 where w bits do not hold z
unfoldable pub twos_complement : ℕ → ℤ → ℕ
twos_complement w z = cond (fits_signed w z) (cond (non_neg z) (nat_abs z) (2 * half_range w - nat_abs z)) 0
