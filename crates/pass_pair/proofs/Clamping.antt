-- A correction that is clamped: itself within the bound, and as far out of range as the correction itself beyond it. Assumes nothing.
use Rattle.std.specs.Prelude.{◌≡◌, refl, Bool, true, false, cond, ◌||◌, ℕ, zero, suc, ◌+◌, ◌-◌, ◌^◌, ◌≤◌, ◌<◌, T, ltb, ℤ, pos, negsuc}
use Rattle.std.specs.Prelude.{neg_ℤ, nat_abs, ◌+ℤ◌}
use Rattle.vocabulary.specs.{sym, ap, ◌∙◌, subst, le_refl, arith, ltb-true, ltb-false, lt-ltb, le-ltb, lt_z}
use Rattle.wide.specs.Wide.{signed}
use Rattle.wide.proofs.Signs.{signed_above, signed_below}
use Rattle.pass_pair.specs.Pair.{most_tenths, clamped_size, clamped}

-- ---- Its size

pub size_small : (n : ℕ) → n ≤ most_tenths → clamped_size n ≡ n
unfolding clamped_size
size_small n h = go (ltb n most_tenths) refl
  where
    go : (t : Bool) → ltb n most_tenths ≡ t → clamped_size n ≡ n
    go true e = rw e
    go false e = rw e (omega (arith, ltb-false n most_tenths e))

pub size_large : (n : ℕ) → most_tenths ≤ n → clamped_size n ≡ most_tenths
unfolding clamped_size
size_large n h = rw (le-ltb n most_tenths h)

pub size_within : (n : ℕ) → clamped_size n ≤ most_tenths
unfolding clamped_size
size_within n = go (ltb n most_tenths) refl
  where
    go : (t : Bool) → ltb n most_tenths ≡ t → clamped_size n ≤ most_tenths
    go true e = rw e (omega (arith, ltb-true n most_tenths e))
    go false e = rw e (le_refl most_tenths)

-- ---- The correction

pub clamped_small : (z : ℤ) → nat_abs z ≤ most_tenths → clamped z ≡ z
unfolding clamped
clamped_small (pos n) h = ap pos (size_small n h)
clamped_small (negsuc n) h = ap (λ (k : ℕ). neg_ℤ (pos k)) (size_small (suc n) h)

pub clamped_signed : (s : Bool) (n : ℕ) → clamped (signed s n) ≡ signed s (clamped_size n)
unfolding clamped signed clamped_size
clamped_signed false n = refl
clamped_signed true zero = refl
clamped_signed true (suc n) = refl

pub clamped_above : (s : Bool) (n : ℕ) → s ≡ false → clamped (signed s n) ≡ pos (clamped_size n)
clamped_above s n e = rw e (clamped_signed false n ∙ signed_above (clamped_size n))

pub clamped_below : (s : Bool) (n : ℕ) → s ≡ true → clamped (signed s n) ≡ neg_ℤ (pos (clamped_size n))
clamped_below s n e = rw e (clamped_signed true n ∙ signed_below (clamped_size n))

-- ---- An angle and its correction, outside the range of angles: what number 7 asks

abbrev pub outside_angles : ℤ → Bool
outside_angles z = lt_z z (pos 1) || lt_z (pos 6_479_999) z

outside_above : (g n : ℕ) → most_tenths ≤ n → outside_angles (pos g +ℤ pos n) ≡ true
outside_above g n h =
    ap (λ (t : Bool). t || ltb 6_479_999 (g + n)) (le-ltb (g + n) 1 (omega arith)) ∙ lt-ltb 6_479_999 (g + n) (omega arith)

outside_below : (g n : ℕ) → g < 2 ^ 23 → most_tenths ≤ suc n → outside_angles (pos g +ℤ negsuc n) ≡ true
outside_below g n few h =
    ap (λ (t : Bool). outside_angles (cond t (negsuc (suc n - suc g)) (pos (g - suc n)))) (lt-ltb g (suc n) (omega arith))

module _ (g : ℕ) (few : g < 2 ^ 23) where
  -- beyond the bound
  outside_far : (z : ℤ) → most_tenths < nat_abs z → (outside_angles (pos g +ℤ clamped z) ≡ true) × (outside_angles (pos g +ℤ z) ≡ true)
  unfolding clamped
  outside_far (pos n) h =
      let large : most_tenths ≤ n = omega arith in (
        ap (λ (k : ℕ). outside_angles (pos g +ℤ pos k)) (size_large n large) ∙ outside_above g most_tenths (le_refl most_tenths),
        outside_above g n large,
      )
  outside_far (negsuc n) h =
      let large : most_tenths ≤ suc n = omega arith in (
        ap (λ (k : ℕ). outside_angles (pos g +ℤ neg_ℤ (pos k))) (size_large (suc n) large)
            ∙ outside_below g 1_299_999_999 few (le_refl most_tenths),
        outside_below g n few large,
      )

  -- an angle is as far out of range with the clamped correction as with the correction
  pub clamped_outside : (z : ℤ) → outside_angles (pos g +ℤ clamped z) ≡ outside_angles (pos g +ℤ z)
  clamped_outside z = go (ltb most_tenths (nat_abs z)) refl
    where
      go : (t : Bool) → ltb most_tenths (nat_abs z) ≡ t → outside_angles (pos g +ℤ clamped z) ≡ outside_angles (pos g +ℤ z)
      go true e = let far = outside_far z (ltb-true most_tenths (nat_abs z) e) in far.0 ∙ sym far.1
      go false e = ap (λ (x : ℤ). outside_angles (pos g +ℤ x)) (clamped_small z (ltb-false most_tenths (nat_abs z) e))

  -- and where it stays inside, the two are the same
  pub clamped_inside : (z : ℤ) → outside_angles (pos g +ℤ z) ≡ false → clamped z ≡ z
  clamped_inside z inside = go (ltb most_tenths (nat_abs z)) refl
    where
      go : (t : Bool) → ltb most_tenths (nat_abs z) ≡ t → clamped z ≡ z
      go true e = absurd (subst T (sym (outside_far z (ltb-true most_tenths (nat_abs z) e)).1 ∙ inside) tt)
      go false e = clamped_small z (ltb-false most_tenths (nat_abs z) e)
