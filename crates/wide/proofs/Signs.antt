-- Laws of signed sizes: what their sums, products, order, rounded quotients and what is held of them are, by the two signs.
use Rattle.std.specs.Prelude.{◌≡◌, refl, Bool, true, false, not, ℕ, zero, suc, ◌+◌, ◌-◌, ◌*◌, ◌≤◌, ◌<◌, eqb, ltb, ℤ, pos, negsuc, neg_ℤ}
use Rattle.std.specs.Prelude.{◌^◌, nat_abs, ◌+ℤ◌, ◌-ℤ◌, ◌*ℤ◌}
use Rattle.vocabulary.specs.{sym, ap, ap₂, ◌∙◌, +ℤ_comm, bool-beq, sub-add_cancel, sub-le, lt_of_le_of_lt, arith, lt-ltb, le-ltb, leb-suc-suc, lit<}
use Rattle.vocabulary.specs.{eqb-suc-zero, neg_ℤ-neg_ℤ, neg_ℤ-+ℤ, +ℤ-neg_ℤ_cancel, *ℤ_comm, lt_z}
use Rattle.whole.specs.Quotient.{nearest, rounded_quotient}
use Rattle.whole.proofs.{Integers.negℤ-*ℤ, Magnitudes.nat_abs_neg, Quotient.rounded_odd}
use Rattle.wide.specs.Wide.{limit, signed, held_size, held}
use Rattle.wide.proofs.Sizes.{held_size_lem}

-- ---- The sign

pub signed_size : (s : Bool) (n : ℕ) → nat_abs (signed s n) ≡ n
unfolding signed
signed_size false n = refl
signed_size true n = nat_abs_neg (pos n)

pub signed_above : (n : ℕ) → signed false n ≡ pos n
unfolding signed
signed_above n = refl

pub signed_below : (n : ℕ) → signed true n ≡ neg_ℤ (pos n)
unfolding signed
signed_below n = refl

pub signed_not : (s : Bool) (n : ℕ) → signed (not s) n ≡ neg_ℤ (signed s n)
unfolding signed
signed_not false n = refl
signed_not true n = sym (neg_ℤ-neg_ℤ (pos n))

-- a number's own sign and size
pub signed_own : (z : ℤ) → signed (lt_z z (pos 0)) (nat_abs z) ≡ z
unfolding signed
signed_own (pos n) = ap (λ (t : Bool). signed t n) (le-ltb n 0 (omega arith))
signed_own (negsuc n) = refl

-- ---- What is held

held_none : held_size 0 ≡ 0
unfolding limit
held_none = held_size_lem 0 (lit< tt)

pub held_signed : (s : Bool) (n : ℕ) → held (signed s n) ≡ signed s (held_size n)
unfolding signed held
held_signed false n = refl
held_signed true zero = ap pos held_none ∙ ap (λ (k : ℕ). neg_ℤ (pos k)) (sym held_none)
held_signed true (suc n) = refl

-- ---- Products

pub signed_product : (s t : Bool) (m n : ℕ) → signed (not (bool-beq s t)) (m * n) ≡ signed s m *ℤ signed t n
unfolding signed
signed_product false false m n = refl
signed_product true false m n = sym (negℤ-*ℤ (pos m) (pos n))
signed_product false true m n =
    sym (*ℤ_comm (pos m) (neg_ℤ (pos n)) ∙ negℤ-*ℤ (pos n) (pos m) ∙ ap neg_ℤ (*ℤ_comm (pos n) (pos m)))
signed_product true true m n =
    sym
    (negℤ-*ℤ (pos m) (neg_ℤ (pos n)) ∙ ap neg_ℤ (*ℤ_comm (pos m) (neg_ℤ (pos n)) ∙ negℤ-*ℤ (pos n) (pos m) ∙ ap neg_ℤ (*ℤ_comm (pos n) (pos m)))
    ∙ neg_ℤ-neg_ℤ (pos (m * n)))

pub signed_product_own : (a b : ℤ) → signed (not (bool-beq (lt_z a (pos 0)) (lt_z b (pos 0)))) (nat_abs a * nat_abs b) ≡ a *ℤ b
signed_product_own a b = signed_product (lt_z a (pos 0)) (lt_z b (pos 0)) (nat_abs a) (nat_abs b) ∙ ap₂ ◌*ℤ◌ (signed_own a) (signed_own b)

pub held_product : (s : Bool) (n : ℕ) (k : ℤ) → held (signed s n *ℤ k) ≡ signed (not (bool-beq s (lt_z k (pos 0)))) (held_size (n * nat_abs k))
held_product s n k =
    ap (λ (z : ℤ). held (signed s n *ℤ z)) (sym (signed_own k)) ∙ ap held (sym (signed_product s (lt_z k (pos 0)) n (nat_abs k)))
    ∙ held_signed (not (bool-beq s (lt_z k (pos 0)))) (n * nat_abs k)

-- ---- Sums

pub signed_sum_lem : (s : Bool) (m n : ℕ) → signed s (m + n) ≡ signed s m +ℤ signed s n
unfolding signed
signed_sum_lem false m n = refl
signed_sum_lem true m n = neg_ℤ-+ℤ (pos m) (pos n)

taken : (m n : ℕ) → n ≤ m → pos (m - n) ≡ pos m -ℤ pos n
taken m n h = sym (ap (λ (k : ℕ). pos k -ℤ pos n) (sym (sub-add_cancel h)) ∙ +ℤ-neg_ℤ_cancel (pos (m - n)) (pos n))

-- of two signs the larger size keeps its own
pub signed_left : (s : Bool) (m n : ℕ) → n ≤ m → signed s (m - n) ≡ signed s m +ℤ signed (not s) n
unfolding signed
signed_left false m n h = taken m n h
signed_left true m n h = ap neg_ℤ (taken m n h) ∙ neg_ℤ-+ℤ (pos m) (neg_ℤ (pos n)) ∙ ap (λ (z : ℤ). neg_ℤ (pos m) +ℤ z) (neg_ℤ-neg_ℤ (pos n))

pub other_sign : (s t : Bool) → bool-beq s t ≡ false → t ≡ not s
other_sign false false e = sym e
other_sign false true e = refl
other_sign true false e = refl
other_sign true true e = e

pub same_sign : (s t : Bool) → bool-beq s t ≡ true → t ≡ s
same_sign false false e = refl
same_sign false true e = sym e
same_sign true false e = e
same_sign true true e = refl

-- ---- Order

pub less_plain : (s t : Bool) (m n : ℕ) → s ≡ false → t ≡ false → lt_z (signed s m) (signed t n) ≡ ltb m n
unfolding signed
less_plain s t m n d e = rw (d, e) refl

below : (m n : ℕ) → lt_z (signed true m) (signed true n) ≡ ltb n m
unfolding signed
below zero zero = refl
below zero (suc n) = sym (le-ltb (suc n) 0 (omega arith))
below (suc m) zero = sym (lt-ltb 0 (suc m) (omega arith))
below (suc m) (suc n) = sym (leb-suc-suc (suc n) m)

pub less_turned : (s t : Bool) (m n : ℕ) → s ≡ true → t ≡ true → lt_z (signed s m) (signed t n) ≡ ltb n m
less_turned s t m n d e = rw (d, e) (below m n)

-- below zero and not: less, unless both are 0
pub less_none : (s t : Bool) (m n : ℕ) → s ≡ true → t ≡ false → m ≡ 0 → lt_z (signed s m) (signed t n) ≡ not (eqb n 0)
unfolding signed
less_none s t m n d e f = rw (d, e, f) (none n)
  where
    none : (n : ℕ) → lt_z (signed true 0) (signed false n) ≡ not (eqb n 0)
    none zero = refl
    none (suc n) = lt-ltb 0 (suc n) (omega arith) ∙ sym (ap not (eqb-suc-zero n))

pub less_across : (s t : Bool) (m n : ℕ) → s ≡ true → t ≡ false → (m ≡ 0 → ⊥) → lt_z (signed s m) (signed t n) ≡ true
unfolding signed
less_across s t m n d e some = rw (d, e) (across m some)
  where
    across : (m : ℕ) → (m ≡ 0 → ⊥) → lt_z (signed true m) (signed false n) ≡ true
    across zero some = absurd (some refl)
    across (suc m) some = refl

pub less_never : (s t : Bool) (m n : ℕ) → s ≡ false → t ≡ true → lt_z (signed s m) (signed t n) ≡ false
unfolding signed
less_never s t m n d e = rw (d, e) (never n)
  where
    never : (n : ℕ) → lt_z (signed false m) (signed true n) ≡ false
    never zero = le-ltb m 0 (omega arith)
    never (suc n) = refl

pub negative_marked : (s : Bool) (n : ℕ) → s ≡ true → lt_z (signed s n) (pos 0) ≡ not (eqb n 0)
unfolding signed
negative_marked s n e = rw e (marked n)
  where
    marked : (n : ℕ) → lt_z (signed true n) (pos 0) ≡ not (eqb n 0)
    marked zero = refl
    marked (suc n) = sym (ap not (eqb-suc-zero n))

pub negative_unmarked : (s : Bool) (n : ℕ) → s ≡ false → lt_z (signed s n) (pos 0) ≡ false
unfolding signed
negative_unmarked s n e = rw e (unmarked n)
  where
    unmarked : (n : ℕ) → lt_z (signed false n) (pos 0) ≡ false
    unmarked n = le-ltb n 0 (omega arith)

-- ---- The rounded quotient

pub signed_rounded : (s : Bool) (n d : ℕ) → rounded_quotient (signed s n) d ≡ signed s (nearest n d)
unfolding signed rounded_quotient
signed_rounded false n d = refl
signed_rounded true n d = rounded_odd (pos n) d

-- ---- What is held of a sum

pub sum_along : (s t : Bool) (m n : ℕ) → bool-beq s t ≡ true → held (signed s m +ℤ signed t n) ≡ signed s (held_size (m + n))
sum_along s t m n e =
    ap held (ap (λ (u : Bool). signed s m +ℤ signed u n) (same_sign s t e) ∙ sym (signed_sum_lem s m n)) ∙ held_signed s (m + n)

-- what is left of two signs is held, as the larger size is
pub sum_across : (s : Bool) (m n : ℕ) → n ≤ m → m < 2 ^ 128 → held (signed s m +ℤ signed (not s) n) ≡ signed s (m - n)
unfolding limit
sum_across s m n h within =
    ap held (sym (signed_left s m n h)) ∙ held_signed s (m - n)
    ∙ ap (signed s) (held_size_lem (m - n) (lt_of_le_of_lt (sub-le m n) within))

pub sum_across_turned : (s : Bool) (m n : ℕ) → n ≤ m → m < 2 ^ 128 → held (signed (not s) n +ℤ signed s m) ≡ signed s (m - n)
sum_across_turned s m n h within = ap held (+ℤ_comm (signed (not s) n) (signed s m)) ∙ sum_across s m n h within
