-- The order of ℤ and squares: `a ≤ℤ b` is `b ≡ a + n` for a natural n, so that an order is used as an equation. Assumes nothing.
use Rattle.std.specs.Prelude.{◌≡◌, refl, Bool, true, false, cond, ℕ, zero, suc, ◌+◌, ◌*◌, ◌-◌, ◌≤◌, ◌<◌, T, ltb, ℤ, pos, negsuc, nat_abs}
use Rattle.std.specs.Prelude.{◌+ℤ◌, ◌-ℤ◌, ◌*ℤ◌, ◌≤ℤ◌}
use Rattle.vocabulary.specs.{sym, ap, ◌∙◌, subst, mul-pos, zero-lt-suc, not-suc-le-zero, arith, le→leb, leb→le, sub_ℕ, le_z, yes_non_neg}
use Rattle.vocabulary.specs.{pos-nat_abs, le-ltb}
use Rattle.whole.proofs.Ring.{ring, ◌≐◌, ◌⊕◌, ◌⊖◌}

pub pos_injective : {m n : ℕ} → pos m ≡ pos n → m ≡ n
pos_injective e = ap nat_abs e

pub zero-≤ℤ-pos : (n : ℕ) → pos 0 ≤ℤ pos n
zero-≤ℤ-pos n = record { le = le→leb 0 n (omega arith) }

-- a whole number that is not below 0 is a natural number
pub natural : (z : ℤ) → pos 0 ≤ℤ z → z ≡ pos (nat_abs z)
natural z h = sym (pos-nat_abs z (yes_non_neg h))

above_negative : (m n : ℕ) → T (le_z (negsuc m) (sub_ℕ n (suc m)))
above_negative m n = go (ltb n (suc m)) refl
  where
    go : (b : Bool) → ltb n (suc m) ≡ b → T (le_z (negsuc m) (cond b (negsuc (suc m - suc n)) (pos (n - suc m))))
    go true e = le→leb (suc m - suc n) m (omega arith)
    go false e = tt

pub ≤ℤ-of-sum : (a : ℤ) (n : ℕ) → a ≤ℤ (a +ℤ pos n)
≤ℤ-of-sum (pos m) n = record { le = le→leb m (m + n) (omega arith) }
≤ℤ-of-sum (negsuc m) n = record { le = above_negative m n }

difference_natural : (a b : ℤ) → T (le_z a b) → pos 0 ≤ℤ (b -ℤ a)
difference_natural (pos zero) (pos b) t = zero-≤ℤ-pos (b + 0)
difference_natural (pos (suc a)) (pos b) t =
    subst (λ (c : Bool). pos 0 ≤ℤ cond c (negsuc (suc a - suc b)) (pos (b - suc a))) (sym (le-ltb b (suc a) (leb→le (suc a) b t))) (zero-≤ℤ-pos (b - suc a))
difference_natural (pos a) (negsuc b) t = absurd t
difference_natural (negsuc a) (pos b) t = zero-≤ℤ-pos (b + suc a)
difference_natural (negsuc a) (negsuc b) t =
    subst (λ (c : Bool). pos 0 ≤ℤ cond c (negsuc (suc b - suc (suc a))) (pos (suc a - suc b))) (sym (le-ltb (suc a) (suc b) (leq (leb→le b a t)))) (zero-≤ℤ-pos (suc a - suc b))
  where
    leq : b ≤ a → suc b ≤ suc a
    leq h = omega arith

pub ≤ℤ-difference : {a b : ℤ} → a ≤ℤ b → pos 0 ≤ℤ (b -ℤ a)
≤ℤ-difference {a} {b} h = difference_natural a b h.le

pub ≤ℤ-from-difference : (a b : ℤ) → pos 0 ≤ℤ (b -ℤ a) → a ≤ℤ b
≤ℤ-from-difference a b h =
    subst (λ (t : ℤ). a ≤ℤ t) (ap (λ (t : ℤ). a +ℤ t) (sym (natural (b -ℤ a) h)) ∙ ring 2 (λ a b. a ⊕ (b ⊖ a) ≐ b) tt a b)
    (≤ℤ-of-sum a (nat_abs (b -ℤ a)))

pub nonnegative_sum : {a b : ℤ} → pos 0 ≤ℤ a → pos 0 ≤ℤ b → pos 0 ≤ℤ (a +ℤ b)
nonnegative_sum {a} {b} h k =
    subst (λ (t : ℤ). pos 0 ≤ℤ t) (ap (λ (t : ℤ). t +ℤ pos (nat_abs b)) (sym (natural a h)) ∙ ap (λ (t : ℤ). a +ℤ t) (sym (natural b k)))
    (zero-≤ℤ-pos (nat_abs a + nat_abs b))

pub ≤ℤ-trans : {a b c : ℤ} → a ≤ℤ b → b ≤ℤ c → a ≤ℤ c
≤ℤ-trans {a} {b} {c} h k =
    ≤ℤ-from-difference a c
    (subst (λ (t : ℤ). pos 0 ≤ℤ t) (ring 3 (λ a b c. b ⊖ a ⊕ (c ⊖ b) ≐ c ⊖ a) tt a b c) (nonnegative_sum (≤ℤ-difference h) (≤ℤ-difference k)))

-- two numbers not below 0 that sum to 0 are 0
pub left_zero : {a b : ℤ} → pos 0 ≤ℤ a → pos 0 ≤ℤ b → a +ℤ b ≡ pos 0 → a ≡ pos 0
left_zero {a} {b} h k e = natural a h ∙ ap pos none
  where
    together : nat_abs a + nat_abs b ≡ 0
    together = pos_injective (ap (λ (t : ℤ). t +ℤ pos (nat_abs b)) (sym (natural a h)) ∙ ap (λ (t : ℤ). a +ℤ t) (sym (natural b k)) ∙ e)

    none : nat_abs a ≡ 0
    none = omega (arith, together)

pub square_nonnegative : (a : ℤ) → pos 0 ≤ℤ (a *ℤ a)
square_nonnegative (pos n) = zero-≤ℤ-pos (n * n)
square_nonnegative (negsuc n) = zero-≤ℤ-pos (suc n * suc n)

pub square_zero : (a : ℤ) → a *ℤ a ≡ pos 0 → a ≡ pos 0
square_zero (pos zero) e = refl
square_zero (pos (suc n)) e = absurd (not-suc-le-zero (subst (λ (k : ℕ). 0 < k) (pos_injective e) (mul-pos (zero-lt-suc n) (zero-lt-suc n))))
square_zero (negsuc n) e = absurd (not-suc-le-zero (subst (λ (k : ℕ). 0 < k) (pos_injective e) (mul-pos (zero-lt-suc n) (zero-lt-suc n))))
