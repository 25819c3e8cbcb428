-- Laws of narrowing to one word with a sign. A caller whose number has a magnitude below 2 ^ 63 gets the number.
use Rattle.std.specs.Prelude.{◌≡◌, refl, Bool, true, false, ℕ, suc, ◌^◌, ◌≤◌, ◌<◌, ltb, ℤ, pos, negsuc, neg_ℤ, nat_abs, ◌+ℤ◌, ◌-ℤ◌}
use Rattle.std.specs.Prelude.{Option, None, Some, unwrap_or}
use Rattle.std.specs.Option.{SomeIff}
use Rattle.vocabulary.specs.{sym, ap, subst, ◌∙◌, lt_of_le_of_lt, le_refl, le-suc, arith, lt-ltb, le-ltb, ltb-true, ltb-false, mag, +ℤ_idl, SFits, w64}
use Rattle.wide.specs.Wide.{signed, value_of, narrowed}
use Rattle.wide.specs.declared.Wide.{Wide}
use Rattle.wide.proofs.Signs.{signed_size, signed_above, signed_below}

narrowed_fits : (z : ℤ) → mag z < 2 ^ 63 → narrowed z ≡ z
unfolding narrowed
narrowed_fits z h = rw (lt-ltb (mag z) (2 ^ 63) h)

pub narrowed_none : (z : ℤ) → 2 ^ 63 ≤ mag z → narrowed z ≡ pos 0
unfolding narrowed
narrowed_none z h = rw (le-ltb (mag z) (2 ^ 63) h)

mag_within : (z : ℤ) → mag z ≤ nat_abs z
mag_within (pos n) = le_refl n
mag_within (negsuc n) = le-suc n

mag_near : (z : ℤ) → nat_abs z ≤ suc (mag z)
mag_near (pos n) = le-suc n
mag_near (negsuc n) = le_refl (suc n)

pub narrowed_within : (z : ℤ) → nat_abs z < 2 ^ 63 → narrowed z ≡ z
narrowed_within z h = narrowed_fits z (lt_of_le_of_lt (mag_within z) h)

-- what a number that is answered with None past one word gives, with 0 for None
narrowed_by : (z : ℤ) (r : Option ℤ) → SomeIff r (SFits w64 z) z → narrowed z ≡ unwrap_or r (pos 0)
narrowed_by z None h = go (ltb (mag z) (2 ^ 63)) refl
  where
    go : (t : Bool) → ltb (mag z) (2 ^ 63) ≡ t → narrowed z ≡ pos 0
    go true e = absurd (h (record { sfits = ltb-true (mag z) (2 ^ 63) e }))
    go false e = narrowed_none z (ltb-false (mag z) (2 ^ 63) e)
narrowed_by z (Some k) h = narrowed_fits z h.0.sfits ∙ sym h.1

pub above_by : (s : Bool) (n : ℕ) (r : Option ℤ) → s ≡ false → SomeIff r (SFits w64 (pos 0 +ℤ pos n)) (pos 0 +ℤ pos n)
    → narrowed (signed s n) ≡ unwrap_or r (pos 0)
above_by s n r e h =
    ap narrowed (ap (λ (t : Bool). signed t n) e ∙ signed_above n)
    ∙ narrowed_by (pos n) r (subst (λ (z : ℤ). SomeIff r (SFits w64 z) z) (+ℤ_idl (pos n)) h)

pub below_by : (s : Bool) (n : ℕ) (r : Option ℤ) → s ≡ true → SomeIff r (SFits w64 (pos 0 -ℤ pos n)) (pos 0 -ℤ pos n)
    → narrowed (signed s n) ≡ unwrap_or r (pos 0)
below_by s n r e h =
    ap narrowed (ap (λ (t : Bool). signed t n) e ∙ signed_below n)
    ∙ narrowed_by (neg_ℤ (pos n)) r (subst (λ (z : ℤ). SomeIff r (SFits w64 z) z) (+ℤ_idl (neg_ℤ (pos n))) h)

-- a size that passes one word
pub narrowed_wide : (s : Bool) (n : ℕ) → (n < 2 ^ 64 → ⊥) → narrowed (signed s n) ≡ pos 0
narrowed_wide s n h = narrowed_none (signed s n) (omega (arith, mag_near (signed s n), signed_size s n))

-- a number by its size and sign
pub narrowed_above : (a : Wide) → a.negative ≡ false → narrowed (value_of a) ≡ narrowed (pos a.size)
unfolding value_of
narrowed_above a above = rw above (ap narrowed (signed_above a.size))

pub narrowed_below : (a : Wide) → a.negative ≡ true → narrowed (value_of a) ≡ narrowed (neg_ℤ (pos a.size))
unfolding value_of
narrowed_below a below = rw below (ap narrowed (signed_below a.size))
