-- Laws of magnitudes: of sums, differences and products, of a sign given to one, and from a magnitude to the range of a signed machine
-- number and back. `omega` reads natural numbers only, so bounds on whole numbers are stated of their magnitudes.
use Rattle.std.specs.Prelude.{◌≡◌, refl, Bool, true, false, not, cond, ℕ, zero, suc, ◌+◌, ◌-◌, ◌*◌, ◌^◌, ◌≤◌, ◌<◌, T, leb, ltb, ℤ, pos}
use Rattle.std.specs.Prelude.{negsuc, neg_ℤ, nat_abs, ◌+ℤ◌, ◌-ℤ◌, ◌*ℤ◌}
use Rattle.vocabulary.specs.{sym, ap, ◌∙◌, subst, not-suc-le-zero, le_refl, le_of_lt, arith, ltb-true, le-ltb, ltb→lt, nltb→le, sub_ℕ, mag}
use Rattle.vocabulary.specs.{lt_z, nat_abs-le, Width, SFits, hbits, to_z, of_z, to_z-of_z, sfits_widen}
use Rattle.whole.specs.Quotient.{with_sign}

-- ---- The sign

pub nat_abs_neg : (a : ℤ) → nat_abs (neg_ℤ a) ≡ nat_abs a
nat_abs_neg (pos zero) = refl
nat_abs_neg (pos (suc n)) = refl
nat_abs_neg (negsuc n) = refl

pub nat_abs_with_sign : (z : ℤ) (m : ℕ) → nat_abs (with_sign z m) ≡ m
nat_abs_with_sign (pos n) m = refl
nat_abs_with_sign (negsuc n) m = nat_abs_neg (pos m)

-- ---- Sums, differences and products

by_test : (t : Bool) (x y : ℤ) (n : ℕ) → (T t → nat_abs x ≡ n) → (T (not t) → nat_abs y ≡ n) → nat_abs (cond t x y) ≡ n
by_test true x y n f g = f tt
by_test false x y n f g = g tt

-- of the two differences of natural numbers one is 0, and the other is the magnitude
nat_abs_subℕ : (a b : ℕ) → nat_abs (sub_ℕ a b) ≡ (a - b) + (b - a)
nat_abs_subℕ a b =
    by_test (ltb a b) (negsuc (b - suc a)) (pos (a - b)) ((a - b) + (b - a)) (λ t. less (ltb→lt a b t)) (λ t. more (nltb→le a b t))
  where
    less : a < b → suc (b - suc a) ≡ (a - b) + (b - a)
    less h = omega arith

    more : b ≤ a → a - b ≡ (a - b) + (b - a)
    more h = omega arith

pub nat_abs_distance : (a b : ℕ) → nat_abs (pos a -ℤ pos b) ≡ (a - b) + (b - a)
nat_abs_distance a zero = omega arith
nat_abs_distance a (suc b) = nat_abs_subℕ a (suc b)

pub nat_abs_add : (a b : ℤ) → nat_abs (a +ℤ b) ≤ nat_abs a + nat_abs b
nat_abs_add (pos a) (pos b) = le_refl (a + b)
nat_abs_add (pos a) (negsuc b) = omega (arith, nat_abs_subℕ a (suc b))
nat_abs_add (negsuc a) (pos b) = omega (arith, nat_abs_subℕ b (suc a))
nat_abs_add (negsuc a) (negsuc b) = omega arith

pub nat_abs_sub : (a b : ℤ) → nat_abs (a -ℤ b) ≤ nat_abs a + nat_abs b
nat_abs_sub a b = omega (arith, nat_abs_add a (neg_ℤ b), nat_abs_neg b)

pub nat_abs_mul : (a b : ℤ) → nat_abs (a *ℤ b) ≡ nat_abs a * nat_abs b
nat_abs_mul (pos a) (pos b) = refl
nat_abs_mul (pos a) (negsuc b) = nat_abs_neg (pos (a * suc b))
nat_abs_mul (negsuc a) (pos b) = nat_abs_neg (pos (suc a * b))
nat_abs_mul (negsuc a) (negsuc b) = refl

-- ---- The range of a signed machine number, at every width

pub magnitude_fits : (w : Width) (z : ℤ) → nat_abs z < 2 ^ hbits w → SFits w z
magnitude_fits w (pos n) h = record { sfits = h }
magnitude_fits w (negsuc n) h = record { sfits = le_of_lt h }

-- the smallest number has the magnitude 2 ^ hbits w itself
pub fits_magnitude : (w : Width) (z : ℤ) → SFits w z → nat_abs z ≤ 2 ^ hbits w
fits_magnitude w z f = nat_abs-le z f.sfits

-- a number that is cast to a wider width is read there as it was
pub widened : (w w' : Width) (z : ℤ) → T (leb (hbits w) (hbits w')) → SFits w z → to_z w' (of_z w' (to_z w (of_z w z))) ≡ z
widened w w' z wider f = ap (λ (t : ℤ). to_z w' (of_z w' t)) (to_z-of_z f) ∙ to_z-of_z (sfits_widen wider f)

pub widens : (w w' : Width) (z : ℤ) → T (leb (hbits w) (hbits w')) → SFits w z → SFits w' (to_z w (of_z w z))
widens w w' z wider f = rw (to_z-of_z f) (sfits_widen wider f)

-- ---- Which side of zero the machine's test, made on the bits of z, finds z on

negative : (z : ℤ) → lt_z z (pos 0) ≡ true → z ≡ negsuc (mag z)
negative (pos n) e = absurd (not-suc-le-zero (ltb-true n 0 e))
negative (negsuc n) e = refl

not_negative : (z : ℤ) → lt_z z (pos 0) ≡ false → z ≡ pos (nat_abs z)
not_negative (pos n) e = refl
not_negative (negsuc n) e = absurd (subst T e tt)

module _ (w : Width) (z : ℤ) (fits : SFits w z) where
  pub below_zero : lt_z (to_z w (of_z w z)) (pos 0) ≡ true → z ≡ negsuc (mag z)
  below_zero e = negative z (rw (sym (to_z-of_z fits)) e)

  pub not_below_zero : lt_z (to_z w (of_z w z)) (pos 0) ≡ false → z ≡ pos (nat_abs z)
  not_below_zero e = not_negative z (rw (sym (to_z-of_z fits)) e)

-- −1 − z turns n to −(n + 1) and back, so that it is in range wherever z is
pub minus_one_less : (n : ℕ) → negsuc 0 -ℤ pos n ≡ negsuc n
minus_one_less zero = refl
minus_one_less (suc n) = ap negsuc (omega arith)

pub minus_one_more : (n : ℕ) → negsuc 0 -ℤ negsuc n ≡ pos n
minus_one_more n =
    ap (λ (t : Bool). cond t (negsuc (1 - suc (suc n))) (pos (suc n - 1))) (le-ltb (suc n) 1 (omega arith)) ∙ ap pos (omega arith)
