-- A field read and written, by the bits that it is. Assumes nothing.
use Rattle.std.specs.Prelude.{Bool, true, false, cond, List, ◌++◌, ◌≡◌, refl, ℕ, ◌+◌, ◌-◌, ◌*◌, ◌/◌, ◌%◌, ◌^◌, ◌≤◌, ◌<◌, leb, length, take, drop}
use Rattle.vocabulary.specs.{and-eq-true_iff, and-false, sym, ap, ◌∙◌, subst, arith, leb-true, le-leb, lt-leb, length-append, length-drop}
use Rattle.vocabulary.specs.{dec_le, lt_of_not-le, pow_pos, take_at, drop_at, length-take-le}
use Rattle.bits.specs.Bits.{bits, value, bits_of, bytes_of, byte_count, inside, field_at, with_field}
use Rattle.bits.proofs.Bytes.{AreBytes, length_bits_of, bits_of_bytes_of_whole, bytes_of_bytes, length_bytes_of}
use Rattle.bits.proofs.Numbers.{length_bits, bits_value, value_lt}

-- ---- where a field lies

pub inside_within : (s : List ℕ) (at w : ℕ) → inside s at w ≡ true → at + w ≤ 8 * length s
unfolding inside
inside_within s at w h = leb-true (at + w) (8 * length s) ((and-eq-true_iff (leb (at + w) (8 * length s)) (leb w 32)).0 h).0

pub inside_narrow : (s : List ℕ) (at w : ℕ) → inside s at w ≡ true → w ≤ 32
unfolding inside
inside_narrow s at w h = leb-true w 32 ((and-eq-true_iff (leb (at + w) (8 * length s)) (leb w 32)).0 h).1

pub is_inside : (s : List ℕ) (at w : ℕ) → at + w ≤ 8 * length s → w ≤ 32 → inside s at w ≡ true
unfolding inside
is_inside s at w h k = (and-eq-true_iff (leb (at + w) (8 * length s)) (leb w 32)).1 (le-leb _ _ h, le-leb _ _ k)

pub inside_past : (s : List ℕ) (at w : ℕ) → 8 * length s < at + w → inside s at w ≡ false
unfolding inside
inside_past s at w h = rw (lt-leb (at + w) (8 * length s) h) refl

pub inside_wide : (s : List ℕ) (at w : ℕ) → 32 < w → inside s at w ≡ false
unfolding inside
inside_wide s at w h = rw (lt-leb w 32 h) (and-false (leb (at + w) (8 * length s)))

-- by whole bytes: those that it spans from the one in which it starts are no more than are left from there
pub spanned_inside : (s : List ℕ) (at w : ℕ) → w ≤ 32 → at / 8 ≤ length s → leb ((at % 8 + w + 7) / 8) (length s - at / 8) ≡ inside s at w
spanned_inside s at w n h =
    elim (dec_le ((at % 8 + w + 7) / 8) (length s - at / 8)) [
      | yes k ↦ le-leb _ _ k ∙ sym (is_inside s at w (omega arith) n)
      | no k ↦ lt-leb _ _ (lt_of_not-le k) ∙ sym (inside_past s at w (omega arith))
    ]

-- ---- bits with another number's in the place of some

-- the bits b with the last w bits of v from a position on
abbrev pub laid : List Bool → ℕ → ℕ → ℕ → List Bool
laid b at w v = take at b ++ (bits w v ++ drop (at + w) b)

module _ (b : List Bool) (at w v : ℕ) (fits : at + w ≤ length b) where
  start_length : length (take at b) ≡ at
  start_length = length-take-le at b (omega arith)

  pub length_laid : length (laid b at w v) ≡ length b
  length_laid =
      omega (
        arith,
        length-append (take at b) (bits w v ++ drop (at + w) b),
        length-append (bits w v) (drop (at + w) b),
        length_bits w v,
        length-drop (at + w) b,
        start_length,
      )

  laid_from : drop at (laid b at w v) ≡ bits w v ++ drop (at + w) b
  laid_from = drop_at (take at b) (bits w v ++ drop (at + w) b) at start_length

  pub laid_there : take w (drop at (laid b at w v)) ≡ bits w v
  laid_there = ap (take w) laid_from ∙ take_at (bits w v) (drop (at + w) b) w (length_bits w v)

-- the two ways a test can come out
by_test {ℓ} : {X : Type ℓ} (t : Bool) → (t ≡ true → X) → (t ≡ false → X) → X
by_test true f g = f refl
by_test false f g = g refl

-- ---- a field that is written

module _ (s : List ℕ) (at w v : ℕ) where
  pub with_field_outside : inside s at w ≡ false → with_field s at w v ≡ s
  unfolding with_field
  with_field_outside e = ap (λ (t : Bool). cond t (bytes_of (laid (bits_of s) at w v)) s) e

  pub with_field_is : inside s at w ≡ true → with_field s at w v ≡ bytes_of (laid (bits_of s) at w v)
  unfolding with_field
  with_field_is e = ap (λ (t : Bool). cond t (bytes_of (laid (bits_of s) at w v)) s) e

  pub room : inside s at w ≡ true → at + w ≤ length (bits_of s)
  room e = omega (arith, length_bits_of s, inside_within s at w e)

  laid_length : inside s at w ≡ true → length (laid (bits_of s) at w v) ≡ 8 * length s
  laid_length e = length_laid (bits_of s) at w v (room e) ∙ length_bits_of s

  -- inside, the field has the last w bits of v, and every other bit stays
  pub bits_of_with_field : inside s at w ≡ true → bits_of (with_field s at w v) ≡ take at (bits_of s) ++ (bits w v ++ drop (at + w) (bits_of s))
  bits_of_with_field e = ap bits_of (with_field_is e) ∙ bits_of_bytes_of_whole (laid (bits_of s) at w v) (length s) (laid_length e)

  pub length_with_field : length (with_field s at w v) ≡ length s
  unfolding byte_count
  length_with_field =
      by_test (inside s at w)
      (λ e. omega (arith, ap length (with_field_is e) ∙ length_bytes_of (laid (bits_of s) at w v), laid_length e))
      (λ e. ap length (with_field_outside e))

  pub with_field_bytes : AreBytes s → AreBytes (with_field s at w v)
  with_field_bytes h =
      by_test (inside s at w)
      (λ e. subst AreBytes (sym (with_field_is e)) (bytes_of_bytes (laid (bits_of s) at w v)))
      (λ e. subst AreBytes (sym (with_field_outside e)) h)

-- ---- a field that is read

module _ (s : List ℕ) (at w : ℕ) where
  pub field_at_outside : inside s at w ≡ false → field_at s at w ≡ 0
  unfolding field_at
  field_at_outside e = ap (λ (t : Bool). cond t (value (take w (drop at (bits_of s)))) 0) e

  pub field_at_is : inside s at w ≡ true → field_at s at w ≡ value (take w (drop at (bits_of s)))
  unfolding field_at
  field_at_is e = ap (λ (t : Bool). cond t (value (take w (drop at (bits_of s)))) 0) e

  field_length : inside s at w ≡ true → length (take w (drop at (bits_of s))) ≡ w
  field_length e = length-take-le w (drop at (bits_of s)) (omega (arith, length-drop at (bits_of s), length_bits_of s, inside_within s at w e))

  -- the bits of what a field holds are the bits that stand there
  pub bits_field_at : inside s at w ≡ true → bits w (field_at s at w) ≡ take w (drop at (bits_of s))
  bits_field_at e = ap (bits w) (field_at_is e) ∙ bits_value w (take w (drop at (bits_of s))) (field_length e)

  -- a field is below 2 to its width, inside or not
  pub field_at_lt : field_at s at w < 2 ^ w
  field_at_lt =
      by_test (inside s at w)
      (λ e. rw (field_at_is e) (subst (λ (n : ℕ). value (take w (drop at (bits_of s))) < 2 ^ n) (field_length e) (value_lt (take w (drop at (bits_of s))))))
      (λ e. rw (field_at_outside e) (pow_pos w))

  -- a field of no bits holds 0
  pub field_at_empty : w ≡ 0 → field_at s at w ≡ 0
  field_at_empty e = omega (arith, subst (λ (n : ℕ). field_at s at w < 2 ^ n) e field_at_lt)
