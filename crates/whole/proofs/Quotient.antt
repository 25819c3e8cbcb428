-- Laws of the rounded quotient, by which other crates know it.
-- Only `nearest_down`, `nearest_up`, what stands under "The half", and the worked values say which way a half goes: the rest is so of every
-- rounding to the nearest.
use Rattle.std.specs.Prelude.{Bool, true, false, cond, ◌≡◌, refl, List, [], ◌∷◌, map, ℕ, zero, suc, ◌+◌, ◌-◌, ◌*◌, ◌/◌, ◌%◌, ◌^◌, ◌≤◌, ◌<◌}
use Rattle.std.specs.Prelude.{ℤ, pos, negsuc, neg_ℤ, nat_abs, ◌-ℤ◌, ◌*ℤ◌}
use Rattle.vocabulary.specs.{⊎_elim, sym, ap, ◌∙◌, zero-le, zero-mul, div-add-mod', mod-lt, div-eq_of_lt-le, eq-or-lt_of_le, eq-zero-or-pos}
use Rattle.vocabulary.specs.{lt_of_mul-lt-mul_right, le-mul_of_pos_right, arith, lt-ltb, le-ltb, eq-eqb, ne_eqb, neg_ℤ-neg_ℤ, neg_ℤ-+ℤ}
use Rattle.vocabulary.specs.{+ℤ_invr}
use Rattle.whole.specs.Quotient.{one_more, nearest, with_sign, rounded_quotient}
use Rattle.whole.proofs.Magnitudes.{nat_abs_neg, nat_abs_with_sign, nat_abs_distance}

-- ---- The quotient and its remainder

pub nearest_none : (n : ℕ) → nearest n 0 ≡ 0
unfolding nearest
nearest_none n = refl

nearest_is : (n d : ℕ) → 0 < d → nearest n d ≡ cond (one_more (n / d) (n % d) d) (n / d + 1) (n / d)
unfolding nearest
nearest_is n zero h = absurd (omega arith)
nearest_is n (suc d) h = refl

-- a remainder nearer to 0 than to the denominator is left out, and so is a half after an even quotient
pub nearest_down : (n d : ℕ) → 0 < d → n % d + n / d % 2 ≤ d - n % d → nearest n d ≡ n / d
nearest_down n d h low = nearest_is n d h ∙ ap (λ (more : Bool). cond more (n / d + 1) (n / d)) (none (n / d) (n % d) (mod-lt n h) low)
  where
    none : (q r : ℕ) → r < d → r + q % 2 ≤ d - r → one_more q r d ≡ false
    none q r within low =
        ⊎_elim
        (λ (half : 2 * r ≡ d). rw (le-ltb d (2 * r) (omega arith), eq-eqb d (2 * r) (sym half), ne_eqb (q % 2) 1 (λ (odd : q % 2 ≡ 1). omega arith)))
        (λ (less : 2 * r < d). rw (le-ltb d (2 * r) (omega arith), ne_eqb d (2 * r) (λ (half : d ≡ 2 * r). omega arith)))
        (eq-or-lt_of_le (omega arith))

-- any other counts as one more
pub nearest_up : (n d : ℕ) → 0 < d → d - n % d < n % d + n / d % 2 → nearest n d ≡ n / d + 1
nearest_up n d h high = nearest_is n d h ∙ ap (λ (more : Bool). cond more (n / d + 1) (n / d)) (one (n / d) (n % d) high)
  where
    one : (q r : ℕ) → d - r < r + q % 2 → one_more q r d ≡ true
    one q r high =
        ⊎_elim
        (λ (half : d ≡ 2 * r). rw (le-ltb d (2 * r) (omega arith), eq-eqb d (2 * r) half, eq-eqb (q % 2) 1 (omega arith)))
        (λ (more : d < 2 * r). rw (lt-ltb d (2 * r) more))
        (eq-or-lt_of_le (omega arith))

-- ---- Magnitudes

-- the one or the other
down_or_up : (P : ℕ → Type 0) (n d : ℕ) → 0 < d → (2 * (n % d) ≤ d → P (n / d)) → (d ≤ 2 * (n % d) → P (n / d + 1)) → P (nearest n d)
down_or_up P n d h down up =
    ⊎_elim
    (λ none. rw (nearest_down n d h (omega arith)) (down (omega arith)))
    (λ some. rw (nearest_up n d h (omega arith)) (up (omega arith)))
    (eq-zero-or-pos ((n % d + n / d % 2) - (d - n % d)))

-- twice the distance from the exact value is at most the denominator, on either side
nearest_at_most : (n d : ℕ) → 2 * (nearest n d * d) ≤ 2 * n + d
nearest_at_most n zero = omega arith
nearest_at_most n (suc d) =
    down_or_up (λ (q : ℕ). 2 * (q * suc d) ≤ 2 * n + suc d) n (suc d) (omega arith) (λ low. omega (arith, div-add-mod' n (suc d)))
    (λ high. omega (arith, div-add-mod' n (suc d)))

nearest_at_least : (n d : ℕ) → 0 < d → 2 * n ≤ 2 * (nearest n d * d) + d
nearest_at_least n d h =
    down_or_up (λ (q : ℕ). 2 * n ≤ 2 * (q * d) + d) n d h (λ low. omega (arith, div-add-mod' n d))
    (λ high. omega (arith, div-add-mod' n d, mod-lt n h))

-- what is nearer than a half is the nearest
pub nearest_only : (n d k : ℕ) → 2 * (k * d) < 2 * n + d → 2 * n < 2 * (k * d) + d → nearest n d ≡ k
nearest_only n d k low high =
    let q = nearest n d in
    let over : 0 < d = omega arith in
    let up : q < suc k = lt_of_mul-lt-mul_right d (omega (arith, nearest_at_most n d)) in
    let down : k < suc q = lt_of_mul-lt-mul_right d (omega (arith, nearest_at_least n d over)) in
    omega arith

pub nearest_within : (n d : ℕ) → nearest n d ≤ n
nearest_within n zero = rw nearest_none zero-le
nearest_within n (suc d) =
    let over : 0 < suc d = omega arith in
    let within : nearest n (suc d) < suc n = lt_of_mul-lt-mul_right (suc d) (omega (arith, nearest_at_most n (suc d), le-mul_of_pos_right n over)) in
    omega arith

-- ---- Signs

-- the magnitude of a rounded quotient
rounded_magnitude : (z : ℤ) (d : ℕ) → nat_abs (rounded_quotient z d) ≡ nearest (nat_abs z) d
unfolding rounded_quotient
rounded_magnitude z d = nat_abs_with_sign z (nearest (nat_abs z) d)

-- odd in its first argument
pub rounded_odd : (z : ℤ) (d : ℕ) → rounded_quotient (neg_ℤ z) d ≡ neg_ℤ (rounded_quotient z d)
unfolding rounded_quotient
rounded_odd (pos zero) d = rw nothing
  where
    nothing : nearest 0 d ≡ 0
    nothing = omega (arith, nearest_within 0 d)
rounded_odd (pos (suc n)) d = refl
rounded_odd (negsuc n) d = sym (neg_ℤ-neg_ℤ (pos (nearest (suc n) d)))

-- what holds of every n, and passes from n to −n, holds of every whole number
by_sign : (P : ℤ → Type 0) → ((n : ℕ) → P (pos n)) → ((z : ℤ) → P z → P (neg_ℤ z)) → (z : ℤ) → P z
by_sign P f g (pos n) = f n
by_sign P f g (negsuc n) = g (pos (suc n)) (f (suc n))

-- how far the numerator z lies from k times the denominator: the same for −z and −k
abbrev apart : ℤ → ℤ → ℕ → ℕ
apart z k d = nat_abs (z -ℤ (k *ℤ pos d))

product_odd : (k : ℤ) (d : ℕ) → neg_ℤ k *ℤ pos d ≡ neg_ℤ (k *ℤ pos d)
product_odd (pos zero) d = rw (zero-mul d)
product_odd (pos (suc k)) d = refl
product_odd (negsuc k) d = sym (neg_ℤ-neg_ℤ (pos (suc k * d)))

apart_odd : (z k : ℤ) (d : ℕ) → apart (neg_ℤ z) (neg_ℤ k) d ≡ apart z k d
apart_odd z k d =
    ap (λ (x : ℤ). nat_abs (neg_ℤ z -ℤ x)) (product_odd k d)
    ∙ ap nat_abs (sym (neg_ℤ-+ℤ z (neg_ℤ (k *ℤ pos d))))
    ∙ nat_abs_neg (z -ℤ (k *ℤ pos d))

-- ---- The laws

-- a denominator of 0 gives 0
pub rounded_none : (z : ℤ) → rounded_quotient z 0 ≡ pos 0
unfolding rounded_quotient
rounded_none (pos n) = ap pos (nearest_none n)
rounded_none (negsuc n) = ap (λ (m : ℕ). neg_ℤ (pos m)) (nearest_none (suc n))

-- twice the distance from the exact value is at most the denominator
pub rounded_near : (z : ℤ) (d : ℕ) → 0 < d → 2 * nat_abs (z -ℤ (rounded_quotient z d *ℤ pos d)) ≤ d
unfolding rounded_quotient
rounded_near z d h = by_sign Near counted turned z
  where
    Near : ℤ → Type 0
    Near z = 2 * apart z (rounded_quotient z d) d ≤ d

    counted : (n : ℕ) → Near (pos n)
    counted n = omega (arith, nat_abs_distance n (nearest n d * d), nearest_at_most n d, nearest_at_least n d h)

    turned : (z : ℤ) → Near z → Near (neg_ℤ z)
    turned z near = rw (rounded_odd z d, apart_odd z (rounded_quotient z d) d) near

-- a whole number that is nearer than a half is the rounded quotient
pub rounded_only : (z k : ℤ) (d : ℕ) → 2 * nat_abs (z -ℤ (k *ℤ pos d)) < d → rounded_quotient z d ≡ k
unfolding rounded_quotient
rounded_only z k d = by_sign Only counted turned z k
  where
    Only : ℤ → Type 0
    Only z = (k : ℤ) → 2 * apart z k d < d → rounded_quotient z d ≡ k

    counted : (n : ℕ) → Only (pos n)
    counted n (pos k) h =
        ap pos (nearest_only n d k (omega (arith, nat_abs_distance n (k * d))) (omega (arith, nat_abs_distance n (k * d))))
    counted n (negsuc k) h =
        let across : 2 * (n + suc k * d) < d = rw (neg_ℤ-neg_ℤ (pos (suc k * d))) at h in
        absurd (omega arith)

    turned : (z : ℤ) → Only z → Only (neg_ℤ z)
    turned z only k h =
        rounded_odd z d ∙ ap neg_ℤ (only (neg_ℤ k) (rw (← apart_odd z (neg_ℤ k) d, neg_ℤ-neg_ℤ k) h)) ∙ neg_ℤ-neg_ℤ k

-- a whole value stays
pub rounded_whole : (k : ℤ) (d : ℕ) → 0 < d → rounded_quotient (k *ℤ pos d) d ≡ k
rounded_whole k d h = rounded_only (k *ℤ pos d) k d (rw (+ℤ_invr (k *ℤ pos d)) h)

-- never past the numerator, for any denominator
pub rounded_within : (z : ℤ) (d : ℕ) → nat_abs (rounded_quotient z d) ≤ nat_abs z
rounded_within z d = rw (rounded_magnitude z d) (nearest_within (nat_abs z) d)

-- and never past the exact value by more than a half
pub rounded_reach : (z : ℤ) (d : ℕ) → 2 * (nat_abs (rounded_quotient z d) * d) ≤ 2 * nat_abs z + d
rounded_reach z d = rw (rounded_magnitude z d) (nearest_at_most (nat_abs z) d)

-- ---- The half

-- at exactly a half, k + 1/2, the rounded quotient is the even one of k and k + 1, on either side of zero
pub rounded_half : (z : ℤ) (d k : ℕ) → 0 < d → 2 * nat_abs z ≡ (2 * k + 1) * d → rounded_quotient z d ≡ with_sign z (k + k % 2)
unfolding rounded_quotient
rounded_half z d k h half = ap (with_sign z) (to_even (nat_abs z) half)
  where
    to_even : (n : ℕ) → 2 * n ≡ (2 * k + 1) * d → nearest n d ≡ k + k % 2
    to_even n half =
        let whole : n / d ≡ k = div-eq_of_lt-le d (omega arith) (omega arith) in
        let left : 2 * (n % d) ≡ d = omega (arith, div-add-mod' n d, ap (λ (q : ℕ). q * d) whole) in
        let parity : n / d % 2 ≡ k % 2 = ap (λ (q : ℕ). q % 2) whole in
        ⊎_elim
        (λ (even : k % 2 ≡ 0). nearest_down n d h (omega arith) ∙ omega arith)
        (λ (odd : 0 < k % 2). nearest_up n d h (omega arith) ∙ omega arith)
        (eq-zero-or-pos (k % 2))

-- ---- The edges of the machine's numbers

-- a numerator, a denominator, and what they give
record Edge : Type 0 where
  numerator : ℤ
  denominator : ℕ
  rounded : ℤ

abbrev edge : ℤ → ℕ → ℤ → Edge
edge n d r = record { numerator = n; denominator = d; rounded = r }

-- the smallest and the largest number of 64 bits, over the least and the greatest denominators; the last five are halves, and so is the
-- largest over 2
abbrev smallest : ℤ
smallest = neg_ℤ (pos (2 ^ 63))

abbrev largest : ℤ
largest = pos (2 ^ 63 - 1)

abbrev edges : List Edge
edges =
    edge smallest 0 (pos 0)
    ∷ edge smallest 1 smallest
    ∷ edge smallest 2 (neg_ℤ (pos (2 ^ 62)))
    ∷ edge smallest (2 ^ 64 - 1) (neg_ℤ (pos 1))
    ∷ edge largest 0 (pos 0)
    ∷ edge largest 1 largest
    ∷ edge largest 2 (pos (2 ^ 62))
    ∷ edge largest (2 ^ 64 - 1) (pos 0)
    ∷ edge largest (2 ^ 64 - 2) (pos 0)
    ∷ edge (neg_ℤ largest) (2 ^ 64 - 2) (pos 0)
    ∷ edge (neg_ℤ largest) 2 (neg_ℤ (pos (2 ^ 62)))
    ∷ edge (pos (2 ^ 63 - 3)) 2 (pos (2 ^ 62 - 2))
    ∷ edge (neg_ℤ (pos (2 ^ 63 - 3))) 2 (neg_ℤ (pos (2 ^ 62 - 2)))
    ∷ []

edges_hold : map (λ (e : Edge). rounded_quotient e.numerator e.denominator) edges ≡ map (λ (e : Edge). e.rounded) edges
unfolding rounded_quotient nearest
edges_hold = refl
