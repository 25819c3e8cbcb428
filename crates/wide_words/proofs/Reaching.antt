-- What two words reach, and the words that are found for it. Assumes nothing.
use Rattle.std.specs.Prelude.{◌≡◌, refl, Bool, true, false, ℕ, ◌^◌, ◌≤◌, ◌<◌, ltb, ℤ, pos, negsuc, neg_ℤ, nat_abs, ◌+ℤ◌, ◌-ℤ◌}
use Rattle.std.specs.Prelude.{Option, None, Some, unwrap_or}
use Rattle.std.specs.Option.{SomeIff}
use Rattle.std.specs.Int.{w128}
use Rattle.vocabulary.specs.{sym, ap, ◌∙◌, subst, lt_of_le_of_lt, le_refl, le-suc, ltb-true, ltb-false, lt-ltb, le-ltb, mag, +ℤ_idl, SFits}
use Rattle.wide.specs.Wide.{signed}
use Rattle.wide.proofs.Signs.{signed_above, signed_below}
use Rattle.wide_words.specs.Words.{reached}

-- ---- What is reached

reached_near : (z : ℤ) → mag z < 2 ^ 127 → reached z ≡ z
unfolding reached
reached_near z h = rw (lt-ltb (mag z) (2 ^ 127) h)

reached_none : (z : ℤ) → 2 ^ 127 ≤ mag z → reached z ≡ pos 0
unfolding reached
reached_none z h = rw (le-ltb (mag z) (2 ^ 127) h)

mag_within : (z : ℤ) → mag z ≤ nat_abs z
mag_within (pos n) = le_refl n
mag_within (negsuc n) = le-suc n

-- for a caller
pub reached_within : (z : ℤ) → nat_abs z < 2 ^ 127 → reached z ≡ z
reached_within z h = reached_near z (lt_of_le_of_lt (mag_within z) h)

-- ---- As the machine finds it: what a number that is answered with None past 128 bits gives, with 0 for None

reached_by : (z : ℤ) (r : Option ℤ) → SomeIff r (SFits w128 z) z → reached z ≡ unwrap_or r (pos 0)
reached_by z None h = go (ltb (mag z) (2 ^ 127)) refl
  where
    go : (t : Bool) → ltb (mag z) (2 ^ 127) ≡ t → reached z ≡ pos 0
    go true e = absurd (h (record { sfits = ltb-true (mag z) (2 ^ 127) e }))
    go false e = reached_none z (ltb-false (mag z) (2 ^ 127) e)
reached_by z (Some k) h = reached_near z h.0.sfits ∙ sym h.1

pub above_by : (s : Bool) (n : ℕ) (r : Option ℤ) → s ≡ false → SomeIff r (SFits w128 (pos 0 +ℤ pos n)) (pos 0 +ℤ pos n)
    → reached (signed s n) ≡ unwrap_or r (pos 0)
above_by s n r e h =
    ap reached (ap (λ (t : Bool). signed t n) e ∙ signed_above n)
    ∙ reached_by (pos n) r (subst (λ (z : ℤ). SomeIff r (SFits w128 z) z) (+ℤ_idl (pos n)) h)

pub below_by : (s : Bool) (n : ℕ) (r : Option ℤ) → s ≡ true → SomeIff r (SFits w128 (pos 0 -ℤ pos n)) (pos 0 -ℤ pos n)
    → reached (signed s n) ≡ unwrap_or r (pos 0)
below_by s n r e h =
    ap reached (ap (λ (t : Bool). signed t n) e ∙ signed_below n)
    ∙ reached_by (neg_ℤ (pos n)) r (subst (λ (z : ℤ). SomeIff r (SFits w128 z) z) (+ℤ_idl (neg_ℤ (pos n))) h)
