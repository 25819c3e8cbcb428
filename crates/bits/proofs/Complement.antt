-- Two's complement: a number that w bits hold is had back from what stands for it, and the other way round. Assumes nothing.
use Rattle.std.specs.Prelude.{Bool, true, false, cond, ◌&&◌, ◌≡◌, refl, ℕ, zero, suc, ◌-◌, ◌*◌, ◌%◌, ◌^◌, ◌≤◌, ◌<◌, leb, ltb, ℤ, pos, negsuc}
use Rattle.std.specs.Prelude.{neg_ℤ, ◌-ℤ◌}
use Rattle.vocabulary.specs.{and-true, and-false, true≢false, false≢true, sym, ap, ◌∙◌, subst, dec_le, two-pow-succ, lt_of_not-le, arith}
use Rattle.vocabulary.specs.{one-mul, shl_exact, lt-ltb, le-ltb, le-leb, lt-leb, leb-zero, leb-suc-suc, pow_pos, pow_mono, mag, le_z, lt_z}
use Rattle.bits.specs.Complement.{half_range, signed_of, fits_signed, twos_complement}

-- ---- the range of a width

pub half_none : half_range 0 ≡ 0
unfolding half_range
half_none = refl

pub half_wide : (w : ℕ) → 32 < w → half_range w ≡ 0
unfolding half_range
half_wide w h = rw (lt-leb w 32 h, and-false (leb 1 w)) refl

pub half_is : (w : ℕ) → 1 ≤ w → w ≤ 32 → half_range w ≡ 2 ^ (w - 1)
unfolding half_range
half_is w h k = rw (le-leb 1 w h, le-leb w 32 k) refl

pub half_shifted : (w : ℕ) → 1 ≤ w → w ≤ 32 → 1 * 2 ^ (w - 1) % 4294967296 ≡ half_range w
half_shifted w h k = shl_exact 1 (w - 1) 32 (omega arith) (omega arith) ∙ one-mul (2 ^ (w - 1)) ∙ sym (half_is w h k)

by_width {ℓ} : {X : Type ℓ} (w : ℕ) → (half_range w ≡ 0 → X) → (1 ≤ w → w ≤ 32 → X) → X
by_width zero none some = none half_none
by_width (suc w) none some = elim (dec_le (suc w) 32) [ yes h ↦ some (omega arith) h | no h ↦ none (half_wide (suc w) (lt_of_not-le h)) ]

-- a number of any width is one of 32 bits
pub half_le : (w : ℕ) → half_range w ≤ 2 ^ 31
half_le w =
    by_width w (λ e. omega arith)
    (λ h k. let small : w - 1 ≤ 31 = omega arith in subst (λ (n : ℕ). n ≤ 2 ^ 31) (sym (half_is w h k)) (pow_mono small))

pub half_small : {half : ℕ} (w : ℕ) → half ≡ half_range w → half ≤ 2 ^ 31
half_small w e = rw e (half_le w)

-- the whole range is 2 to the width
pub whole_range : (w : ℕ) → 1 ≤ w → w ≤ 32 → 2 * half_range w ≡ 2 ^ w
whole_range w h k =
    let next : suc (w - 1) ≡ w = omega arith in
    omega (arith, half_is w h k, sym (two-pow-succ (w - 1)) ∙ ap (λ (n : ℕ). 2 ^ n) next)

pub range_le : (w : ℕ) → 2 * half_range w ≤ 2 ^ w
range_le w = by_width w (λ e. omega arith) (λ h k. omega (arith, whole_range w h k))

-- ---- what v stands for

-- the lower half of the range stands for itself
pub signed_low : (w v : ℕ) → v < half_range w → signed_of w v ≡ pos v
unfolding signed_of
signed_low w v h = rw (lt-ltb v (half_range w) h) refl

below : (v n : ℕ) → v < n → pos v -ℤ pos n ≡ negsuc (n - suc v)
below v zero h = absurd (omega arith)
below v (suc n) h = ap (λ (t : Bool). cond t (negsuc (suc n - suc v)) (pos (v - suc n))) (lt-ltb v (suc n) h)

-- the upper half for the negative numbers
pub signed_high : (w v : ℕ) → half_range w ≤ v → v < 2 * half_range w → signed_of w v ≡ negsuc (2 * half_range w - suc v)
unfolding signed_of
signed_high w v h k = rw (le-ltb v (half_range w) h, lt-ltb v (2 * half_range w) k) (below v (2 * half_range w) k)

pub signed_beyond : (w v : ℕ) → 2 * half_range w ≤ v → signed_of w v ≡ pos 0
unfolding signed_of
signed_beyond w v h = rw (le-ltb v (half_range w) (omega arith), le-ltb v (2 * half_range w) h) refl

-- ---- what stands for z: `mag z` is n both for n and for −(n + 1)

in_half : (n : ℕ) (z : ℤ) → (le_z (neg_ℤ (pos n)) z && lt_z z (pos n)) ≡ ltb (mag z) n
in_half zero (pos m) = rw (leb-zero m) refl
in_half zero (negsuc m) = sym (le-ltb m 0 (omega arith))
in_half (suc n) (pos m) = refl
in_half (suc n) (negsuc m) = and-true (leb m n) ∙ sym (leb-suc-suc m n)

pub fits_signed_lem : (w : ℕ) (z : ℤ) → fits_signed w z ≡ ltb (mag z) (half_range w)
unfolding fits_signed
fits_signed_lem w z = in_half (half_range w) z

pub complement_pos : (w n : ℕ) → n < half_range w → twos_complement w (pos n) ≡ n
unfolding twos_complement
complement_pos w n h = rw (fits_signed_lem w (pos n), lt-ltb n (half_range w) h) refl

pub complement_neg : (w n : ℕ) → n < half_range w → twos_complement w (negsuc n) ≡ 2 * half_range w - suc n
unfolding twos_complement
complement_neg w n h = rw (fits_signed_lem w (negsuc n), lt-ltb n (half_range w) h) refl

pub complement_beyond : (w : ℕ) (z : ℤ) → half_range w ≤ mag z → twos_complement w z ≡ 0
unfolding twos_complement
complement_beyond w z h = rw (fits_signed_lem w z, le-ltb (mag z) (half_range w) h) refl

-- a number by its sign, as the code asks for it
pub not_negative : (z : ℤ) → le_z (pos 0) z ≡ true → z ≡ pos (mag z)
not_negative (pos n) t = refl
not_negative (negsuc n) t = absurd (false≢true t)

pub negative : (z : ℤ) → le_z (pos 0) z ≡ false → z ≡ negsuc (mag z)
negative (pos n) t = absurd (true≢false (sym (leb-zero n) ∙ t))
negative (negsuc n) t = refl

pub complement_above : (w : ℕ) (z : ℤ) → le_z (pos 0) z ≡ true → mag z < half_range w → twos_complement w z ≡ mag z
complement_above w z t h = ap (twos_complement w) (not_negative z t) ∙ complement_pos w (mag z) h

pub complement_below : (w : ℕ) (z : ℤ) → le_z (pos 0) z ≡ false → mag z < half_range w → twos_complement w z ≡ 2 * half_range w - suc (mag z)
complement_below w z t h = ap (twos_complement w) (negative z t) ∙ complement_neg w (mag z) h

-- ---- both round trips, at widths from 1 to 32

module _ (w : ℕ) (some : 1 ≤ w) (narrow : w ≤ 32) where
  pub signed_of_twos_complement : (z : ℤ) → mag z < 2 ^ (w - 1) → signed_of w (twos_complement w z) ≡ z
  signed_of_twos_complement (pos n) h =
      let small : n < half_range w = omega (arith, half_is w some narrow) in
      ap (signed_of w) (complement_pos w n small) ∙ signed_low w n small
  signed_of_twos_complement (negsuc n) h =
      let small : n < half_range w = omega (arith, half_is w some narrow) in
      let back : 2 * half_range w - suc (2 * half_range w - suc n) ≡ n = omega arith in
      ap (signed_of w) (complement_neg w n small) ∙ signed_high w (2 * half_range w - suc n) (omega arith) (omega arith) ∙ ap negsuc back

  low_back : (v : ℕ) → v < half_range w → twos_complement w (signed_of w v) ≡ v
  low_back v h = ap (twos_complement w) (signed_low w v h) ∙ complement_pos w v h

  high_back : (v : ℕ) → half_range w ≤ v → v < 2 * half_range w → twos_complement w (signed_of w v) ≡ v
  high_back v h k =
      let back : 2 * half_range w - suc (2 * half_range w - suc v) ≡ v = omega arith in
      ap (twos_complement w) (signed_high w v h k) ∙ complement_neg w (2 * half_range w - suc v) (omega arith) ∙ back

  pub twos_complement_signed_of : (v : ℕ) → v < 2 ^ w → twos_complement w (signed_of w v) ≡ v
  twos_complement_signed_of v h =
      elim (dec_le (half_range w) v) [ yes k ↦ high_back v k (omega (arith, whole_range w some narrow)) | no k ↦ low_back v (lt_of_not-le k) ]

held_lt : (w : ℕ) (z : ℤ) → mag z < half_range w → twos_complement w z < 2 ^ w
held_lt w (pos n) h = rw (complement_pos w n h) (omega (arith, range_le w))
held_lt w (negsuc n) h = rw (complement_neg w n h) (omega (arith, range_le w))

-- what stands for a number is below 2 to the width, at every width
pub twos_complement_lt : (w : ℕ) (z : ℤ) → twos_complement w z < 2 ^ w
twos_complement_lt w z =
    elim (dec_le (half_range w) (mag z)) [
      | yes h ↦ rw (complement_beyond w z h) (pow_pos w)
      | no h ↦ held_lt w z (lt_of_not-le h)
    ]
