-- Division downwards and upwards: a number is its quotient times d and what is left over, in one way; what is between the two quotients
-- is one of them. Assumes nothing.
use Rattle.std.specs.Prelude.{ℕ, zero, suc, ◌+◌, ◌-◌, ◌*◌, ◌/◌, ◌%◌, ◌≤◌, ◌<◌, ◌⊎◌, ◌≡◌, refl, ℤ, pos, negsuc, neg_ℤ, nat_abs, ◌+ℤ◌, ◌-ℤ◌}
use Rattle.std.specs.Prelude.{◌*ℤ◌, ◌≤ℤ◌}
use Rattle.std.specs.Int.{int_div_euclid}
use Rattle.vocabulary.specs.{inl, inr, ⊎_elim, sym, ap, ap₂, subst, ◌∙◌, mod-lt, div-add-mod, mul-suc, mul-zero, mul-le-mul_right, arith}
use Rattle.vocabulary.specs.{+ℤ_idr}
use Rattle.whole.proofs.Magnitudes.{nat_abs_neg, nat_abs_mul, nat_abs_distance}
use Rattle.whole.proofs.Order.{pos_injective, natural, zero-≤ℤ-pos, ≤ℤ-difference, ≤ℤ-from-difference}
use Rattle.whole.proofs.Ring.{constant, ◌⊕◌, ◌⊖◌, ◌⊗◌, ⊝◌, ◌≐◌, ring, difference_zero}
use Rattle.closing.specs.Floor.{floor_quotient, ceiling_quotient, floor_remainder}

-- what std divides so is what is defined here
pub euclidean : (z : ℤ) (d : ℕ) → int_div_euclid z (pos d) ≡ floor_quotient z d
euclidean (pos n) d = refl
euclidean (negsuc n) d = refl

module _ (d : ℕ) (positive : 0 < d) where
  parts : (n : ℕ) → d * (n / d) + n % d ≡ n
  parts n = div-add-mod n d

  pub remainder_below : (z : ℤ) → floor_remainder z d < d
  remainder_below (pos n) = mod-lt n positive
  remainder_below (negsuc n) = omega (arith, mod-lt n positive)

  pub divided : (z : ℤ) → z ≡ pos d *ℤ floor_quotient z d +ℤ pos (floor_remainder z d)
  divided (pos n) = ap pos (sym (parts n))
  divided (negsuc n) =
      let rest : ℕ = d - 1 - n % d in
      let above : d * suc (n / d) ≡ rest + suc n = omega (arith, mul-suc d (n / d), parts n, mod-lt n positive) in
      sym (ap (λ (m : ℕ). neg_ℤ (pos m) +ℤ pos rest) above ∙ ring 2 (λ r s. ⊝ (r ⊕ s) ⊕ r ≐ ⊝ s) tt (pos rest) (pos (suc n)))

  -- in one way
  pub divided_once : (q k : ℤ) (r s : ℕ) → r < d → s < d → pos d *ℤ q +ℤ pos r ≡ pos d *ℤ k +ℤ pos s → (q ≡ k) × (r ≡ s)
  divided_once q k r s r-below s-below e =
      let apart : pos d *ℤ (q -ℤ k) ≡ pos s -ℤ pos r =
      ring 4 (λ d q k r. d ⊗ (q ⊖ k) ≐ (d ⊗ q ⊕ r) ⊖ d ⊗ k ⊖ r) tt (pos d) q k (pos r)
      ∙ ap (λ (z : ℤ). z -ℤ pos d *ℤ k -ℤ pos r) e
      ∙ ring 4 (λ d k r s. d ⊗ k ⊕ s ⊖ d ⊗ k ⊖ r ≐ s ⊖ r) tt (pos d) k (pos r) (pos s) in
      let size : d * nat_abs (q -ℤ k) ≡ (s - r) + (r - s) = sym (nat_abs_mul (pos d) (q -ℤ k)) ∙ ap nat_abs apart ∙ nat_abs_distance s r in
      let none : nat_abs (q -ℤ k) ≡ 0 = small (nat_abs (q -ℤ k)) (omega (arith, size, r-below, s-below)) in
      let zero-apart : d * nat_abs (q -ℤ k) ≡ 0 = ap (λ (n : ℕ). d * n) none ∙ mul-zero d in
      (difference_zero q k (zero_magnitude (q -ℤ k) none), omega (arith, size, zero-apart))
    where
      small : (n : ℕ) → d * n < d → n ≡ 0
      small zero l = refl
      small (suc n) l = absurd (omega (arith, l, mul-suc d n))

      zero_magnitude : (z : ℤ) → nat_abs z ≡ 0 → z ≡ pos 0
      zero_magnitude (pos n) e = ap pos e
      zero_magnitude (negsuc n) e = absurd (omega (arith, e))

  -- a whole multiple more leaves the same over
  pub remainder_shifted : (z k : ℤ) → floor_remainder (z +ℤ pos d *ℤ k) d ≡ floor_remainder z d
  remainder_shifted z k =
      (divided_once (floor_quotient (z +ℤ pos d *ℤ k) d) (floor_quotient z d +ℤ k) _ _ (remainder_below (z +ℤ pos d *ℤ k)) (remainder_below z)
      (sym (divided (z +ℤ pos d *ℤ k)) ∙ ap (λ (y : ℤ). y +ℤ pos d *ℤ k) (divided z)
      ∙ ring 4 (λ d q r k. d ⊗ q ⊕ r ⊕ d ⊗ k ≐ d ⊗ (q ⊕ k) ⊕ r) tt (pos d) (floor_quotient z d) (pos (floor_remainder z d)) k)
      ).1

  -- nothing is left of a whole multiple, and what has nothing left is one
  pub multiple : (z : ℤ) → floor_remainder z d ≡ 0 → z ≡ pos d *ℤ floor_quotient z d
  multiple z e = divided z ∙ ap (λ (r : ℕ). pos d *ℤ floor_quotient z d +ℤ pos r) e ∙ +ℤ_idr (pos d *ℤ floor_quotient z d)

  -- equal multiples are of one number
  pub same_multiple : (q k : ℤ) → pos d *ℤ q ≡ pos d *ℤ k → q ≡ k
  same_multiple q k e = (divided_once q k 0 0 positive positive (+ℤ_idr (pos d *ℤ q) ∙ e ∙ sym (+ℤ_idr (pos d *ℤ k)))).0

  -- a multiple that is more than −d is not below 0
  not_below : (k : ℤ) (a b : ℕ) → b < d → pos d *ℤ k ≡ pos a -ℤ pos b → pos 0 ≤ℤ k
  not_below (pos k) a b small e = zero-≤ℤ-pos k
  not_below (negsuc k) a b small e =
      let sums : pos (a + d * suc k) ≡ pos b =
      ring 3 (λ d k a. a ⊕ d ⊗ k ≐ a ⊖ d ⊗ ⊝ k) tt (pos d) (pos (suc k)) (pos a)
      ∙ ap (λ (z : ℤ). pos a -ℤ z) e ∙ ring 2 (λ a b. a ⊖ (a ⊖ b) ≐ b) tt (pos a) (pos b) in
      absurd (omega (arith, pos_injective sums, small, mul-suc d k))

  -- from above: what is a whole number of d short of the upper quotient
  abbrev short : ℤ → ℕ
  short z = floor_remainder (neg_ℤ z) d

  pub divided_above : (z : ℤ) → z ≡ pos d *ℤ ceiling_quotient z d -ℤ pos (short z)
  divided_above z =
      ring 1 (λ z. z ≐ ⊝ ⊝ z) tt z ∙ ap neg_ℤ (divided (neg_ℤ z))
      ∙ ring 3 (λ d q r. ⊝ (d ⊗ q ⊕ r) ≐ d ⊗ ⊝ q ⊖ r) tt (pos d) (floor_quotient (neg_ℤ z) d) (pos (short z))

  -- a whole number x of which d times is z, more by less than d and less by less than d, is not below the one quotient nor above the other
  module _ (z x : ℤ) (r s : ℕ) (r-below : r < d) (s-below : s < d) (near : pos d *ℤ x ≡ z +ℤ (pos r -ℤ pos s)) where
    pub not_under : floor_quotient z d ≤ℤ x
    not_under =
        ≤ℤ-from-difference (floor_quotient z d) x (not_below (x -ℤ floor_quotient z d) (floor_remainder z d + r) s s-below
        (ring 3 (λ d x q. d ⊗ (x ⊖ q) ≐ d ⊗ x ⊖ d ⊗ q) tt (pos d) x (floor_quotient z d)
        ∙ ap (λ (y : ℤ). y -ℤ pos d *ℤ floor_quotient z d) (near ∙ ap (λ (y : ℤ). y +ℤ (pos r -ℤ pos s)) (divided z))
        ∙ ring 4 (λ p l r s. p ⊕ l ⊕ (r ⊖ s) ⊖ p ≐ l ⊕ r ⊖ s) tt (pos d *ℤ floor_quotient z d) (pos (floor_remainder z d)) (pos r) (pos s)))

    pub not_over : x ≤ℤ ceiling_quotient z d
    not_over =
        ≤ℤ-from-difference x (ceiling_quotient z d) (not_below (ceiling_quotient z d -ℤ x) (short z + s) r r-below
        (ring 3 (λ d x q. d ⊗ (q ⊖ x) ≐ d ⊗ q ⊖ d ⊗ x) tt (pos d) x (ceiling_quotient z d)
        ∙ ap (λ (y : ℤ). pos d *ℤ ceiling_quotient z d -ℤ y) (near ∙ ap (λ (y : ℤ). y +ℤ (pos r -ℤ pos s)) (divided_above z))
        ∙ ring 4 (λ p l r s. p ⊖ (p ⊖ l ⊕ (r ⊖ s)) ≐ l ⊕ s ⊖ r) tt (pos d *ℤ ceiling_quotient z d) (pos (short z)) (pos r) (pos s)))

  -- from the lower quotient to the upper one is one step or none
  steps : (z : ℤ) → nat_abs (ceiling_quotient z d -ℤ floor_quotient z d) ≤ 1
  steps z =
      let apart : pos d *ℤ (ceiling_quotient z d -ℤ floor_quotient z d) ≡ pos (floor_remainder z d + short z) =
      ring 4 (λ d c q s. d ⊗ (c ⊖ q) ≐ d ⊗ c ⊖ s ⊖ d ⊗ q ⊕ s) tt (pos d) (ceiling_quotient z d) (floor_quotient z d) (pos (short z))
      ∙ ap (λ (y : ℤ). y -ℤ pos d *ℤ floor_quotient z d +ℤ pos (short z)) (sym (divided_above z) ∙ divided z)
      ∙ ring 3 (λ p r s. p ⊕ r ⊖ p ⊕ s ≐ r ⊕ s) tt (pos d *ℤ floor_quotient z d) (pos (floor_remainder z d)) (pos (short z)) in
      few (nat_abs (ceiling_quotient z d -ℤ floor_quotient z d))
      (omega (arith, sym (nat_abs_mul (pos d) (ceiling_quotient z d -ℤ floor_quotient z d)) ∙ ap nat_abs apart, remainder_below z, remainder_below (neg_ℤ z)))
    where
      few : (n : ℕ) → d * n < d + d → n ≤ 1
      few zero l = omega arith
      few (suc zero) l = omega arith
      few (suc (suc n)) l = absurd (omega (arith, l, mul-suc d (suc n), mul-suc d n))

  -- what is between the two is one of them
  pub one_of_both : (z x : ℤ) → floor_quotient z d ≤ℤ x → x ≤ℤ ceiling_quotient z d → (x ≡ floor_quotient z d) ⊎ (x ≡ ceiling_quotient z d)
  one_of_both z x low high =
      let below = natural (x -ℤ floor_quotient z d) (≤ℤ-difference low) in
      let above = natural (ceiling_quotient z d -ℤ x) (≤ℤ-difference high) in
      let together : ceiling_quotient z d -ℤ floor_quotient z d ≡ pos (nat_abs (x -ℤ floor_quotient z d) + nat_abs (ceiling_quotient z d -ℤ x)) =
      ring 3 (λ c x q. c ⊖ q ≐ (x ⊖ q) ⊕ (c ⊖ x)) tt (ceiling_quotient z d) x (floor_quotient z d) ∙ ap₂ ◌+ℤ◌ below above in
      go (nat_abs (x -ℤ floor_quotient z d)) (nat_abs (ceiling_quotient z d -ℤ x)) below above (omega (arith, steps z, ap nat_abs together))
    where
      go : (a b : ℕ) → x -ℤ floor_quotient z d ≡ pos a → ceiling_quotient z d -ℤ x ≡ pos b → a + b ≤ 1 → (x ≡ floor_quotient z d) ⊎ (x ≡ ceiling_quotient z d)
      go zero b below above l = inl (difference_zero x (floor_quotient z d) below)
      go (suc a) zero below above l = inr (sym (difference_zero (ceiling_quotient z d) x above))
      go (suc a) (suc b) below above l = absurd (omega (arith, l))

  pub floor_under : (z : ℤ) → floor_quotient z d ≤ℤ ceiling_quotient z d
  floor_under z =
      not_over z (floor_quotient z d) 0 (floor_remainder z d) positive (remainder_below z)
      (ring 2 (λ p r. p ≐ p ⊕ r ⊕ (constant (pos 0) ⊖ r)) tt (pos d *ℤ floor_quotient z d) (pos (floor_remainder z d))
      ∙ ap (λ (y : ℤ). y +ℤ (pos 0 -ℤ pos (floor_remainder z d))) (sym (divided z)))

  -- a whole value is both
  pub floor_of_whole : (q : ℤ) → floor_quotient (pos d *ℤ q) d ≡ q
  floor_of_whole q =
      (divided_once (floor_quotient (pos d *ℤ q) d) q _ 0 (remainder_below (pos d *ℤ q)) positive (sym (divided (pos d *ℤ q)) ∙ sym (+ℤ_idr (pos d *ℤ q)))).0

  pub ceiling_of_whole : (q : ℤ) → ceiling_quotient (pos d *ℤ q) d ≡ q
  ceiling_of_whole q =
      ap (λ (z : ℤ). neg_ℤ (floor_quotient z d)) (ring 2 (λ d q. ⊝ (d ⊗ q) ≐ d ⊗ ⊝ q) tt (pos d) q)
      ∙ ap neg_ℤ (floor_of_whole (neg_ℤ q)) ∙ ring 1 (λ q. ⊝ ⊝ q ≐ q) tt q

  -- no quotient is farther from 0 than the number
  pub quotient_small : (n : ℕ) → n / d ≤ n
  quotient_small n = omega (arith, parts n, mul-le-mul_right (n / d) positive)

  pub floor_small : (z : ℤ) → nat_abs (floor_quotient z d) ≤ nat_abs z
  floor_small (pos n) = quotient_small n
  floor_small (negsuc n) = omega (arith, quotient_small n)

  pub ceiling_small : (z : ℤ) → nat_abs (ceiling_quotient z d) ≤ nat_abs z
  ceiling_small z = omega (arith, nat_abs_neg (floor_quotient (neg_ℤ z) d), floor_small (neg_ℤ z), nat_abs_neg z)

  -- nor is a number between the two
  pub between_small : (z x : ℤ) → floor_quotient z d ≤ℤ x → x ≤ℤ ceiling_quotient z d → nat_abs x ≤ nat_abs z
  between_small z x low high =
      ⊎_elim (λ (e : x ≡ floor_quotient z d). subst (λ (y : ℤ). nat_abs y ≤ nat_abs z) (sym e) (floor_small z))
      (λ (e : x ≡ ceiling_quotient z d). subst (λ (y : ℤ). nat_abs y ≤ nat_abs z) (sym e) (ceiling_small z)) (one_of_both z x low high)
