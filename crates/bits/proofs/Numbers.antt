-- Numbers and their bits: each is had back from the other. Assumes nothing.
use Rattle.std.specs.Prelude.{Bool, true, false, List, [], ◌∷◌, ◌++◌, ◌≡◌, refl, ℕ, zero, suc, ◌+◌, ◌*◌, ◌/◌, ◌%◌, ◌^◌, ◌<◌, eqb, length}
use Rattle.std.specs.Prelude.{replicate}
use Rattle.vocabulary.specs.{append_assoc, append-nil, sym, ap, ap₂, ◌∙◌, add-zero, add-suc, add-mul, mod-one, pow-suc, mod-eq_of_lt}
use Rattle.vocabulary.specs.{mul_assoc, add-one, one-add, arith, block_half, block_odd, length-append, replicate-append-replicate, pow-add}
use Rattle.vocabulary.specs.{mod-pow-add}
use Rattle.bits.specs.Bits.{odd, bits, digit, value}

pub length_bits : (w n : ℕ) → length (bits w n) ≡ w
unfolding bits
length_bits zero n = refl
length_bits (suc w) n = length-append (bits w (n / 2)) (odd n ∷ []) ∙ ap (λ (k : ℕ). k + 1) (length_bits w (n / 2)) ∙ add-one w

digit_of : (m : ℕ) → m < 2 → digit (eqb m 1) ≡ m
unfolding digit
digit_of zero h = refl
digit_of (suc zero) h = refl
digit_of (suc (suc m)) h = absurd (omega arith)

-- the last bit counts what the number leaves over 2
digit_odd : (n : ℕ) → digit (odd n) ≡ n % 2
unfolding odd
digit_odd n = digit_of (n % 2) (omega arith)

-- runs of bits joined: the first counts 2 to the length of the second times as much
pub value_append : (a b : List Bool) → value (a ++ b) ≡ value a * 2 ^ length b + value b
unfolding value
value_append [] b = omega arith
value_append (c ∷ a) b =
    rw (value_append a b, length-append a b, pow-add 2 (length a) (length b), ← mul_assoc, add-mul) (omega arith)

-- a bit more at the end doubles the number and adds the bit
value_last : (b : List Bool) (x : Bool) → value (b ++ (x ∷ [])) ≡ value b * 2 + digit x
unfolding value
value_last b x = omega (arith, value_append b (x ∷ []))

pub half_below : (w v : ℕ) → v < 2 ^ suc w → v / 2 < 2 ^ w
half_below w v l = let l' : v < 2 ^ w * 2 = rw pow-suc at l in omega arith

-- a number that is put together of a higher and a lower part has the higher's bits and then the lower's
pub bits_append : (h w a v : ℕ) → v < 2 ^ w → bits (h + w) (a * 2 ^ w + v) ≡ bits h a ++ bits w v
unfolding bits odd
bits_append h zero a v l =
    let whole : a * 2 ^ 0 + v ≡ a = omega arith in
    rw (add-zero h, whole) (sym (append-nil (bits h a)))
bits_append h (suc w) a v l =
    rw (add-suc h w, block_half a w v, block_odd a w v, bits_append h w a (v / 2) (half_below w v l)) (append_assoc (bits h a) (bits w (v / 2)) (odd v ∷ []))

-- the last w bits of n stand for what n leaves over 2 ^ w
pub value_bits_mod : (w n : ℕ) → value (bits w n) ≡ n % 2 ^ w
unfolding bits value
value_bits_mod zero n = sym (mod-one n)
value_bits_mod (suc w) n =
    value_last (bits w (n / 2)) (odd n) ∙ ap₂ (λ (a b : ℕ). a * 2 + b) (value_bits_mod w (n / 2)) (digit_odd n)
    ∙ sym (mod-pow-add n w 1) ∙ ap (λ (k : ℕ). n % 2 ^ k) (add-one w)

pub value_bits : (w n : ℕ) → n < 2 ^ w → value (bits w n) ≡ n
value_bits w n h = value_bits_mod w n ∙ mod-eq_of_lt h

pub value_lt : (b : List Bool) → value b < 2 ^ length b
unfolding value digit
value_lt [] = omega arith
value_lt (false ∷ b) = rw pow-suc (omega (arith, value_lt b))
value_lt (true ∷ b) = rw pow-suc (omega (arith, value_lt b))

bits_digit : (c : Bool) → bits 1 (digit c) ≡ c ∷ []
unfolding bits digit odd
bits_digit false = refl
bits_digit true = refl

back : (b : List Bool) → bits (length b) (value b) ≡ b
unfolding value bits
back [] = refl
back (c ∷ b) =
    ap (λ (w : ℕ). bits w (digit c * 2 ^ length b + value b)) (sym (one-add (length b)))
    ∙ bits_append 1 (length b) (digit c) (value b) (value_lt b) ∙ ap₂ (λ (x y : List Bool). x ++ y) (bits_digit c) (back b)

-- w bits are those of the number that they stand for
pub bits_value : (w : ℕ) (b : List Bool) → length b ≡ w → bits w (value b) ≡ b
bits_value w b e = ap (λ (n : ℕ). bits n (value b)) (sym e) ∙ back b

-- zero's bits are zero bits
pub bits_zero : (w : ℕ) → bits w 0 ≡ replicate w false
unfolding bits odd
bits_zero zero = refl
bits_zero (suc w) =
    ap (λ (b : List Bool). b ++ (false ∷ [])) (bits_zero w) ∙ replicate-append-replicate w 1 false ∙ ap (λ (n : ℕ). replicate n false) (add-one w)
