-- Bytes and their bits: each is had back from the other, but for the zero bits that fill the last byte. Assumes nothing.
use Rattle.std.specs.Prelude.{Bool, false, List, [], ◌∷◌, ◌++◌, ◌≡◌, refl, ℕ, zero, suc, ◌+◌, ◌-◌, ◌*◌, ◌/◌, ◌^◌, ◌≤◌, ◌<◌, length, take}
use Rattle.std.specs.Prelude.{drop, get_or, replicate}
use Rattle.vocabulary.specs.{append_assoc, append-nil, sym, ap, ap₂, ◌∙◌, subst, dec_le, lt_of_not-le, arith, length-append, length-take}
use Rattle.vocabulary.specs.{length-drop, length-replicate, replicate-append-replicate, take-append-drop, drop_of_length-le, take_at}
use Rattle.vocabulary.specs.{drop_at, take-append-le, take-append-add, length-take-le}
use Rattle.bits.specs.Bits.{bits, value, bits_of, first_byte, bytes_from, byte_count, filling_width, bytes_of}
use Rattle.bits.proofs.Numbers.{length_bits, value_bits, value_lt, bits_value}

-- every element is a byte: what a slice of bytes tells of its list
abbrev pub AreBytes : List ℕ → Type 0
AreBytes s = (i : ℕ) → get_or s i 0 < 256

pub length_bits_of : (s : List ℕ) → length (bits_of s) ≡ 8 * length s
unfolding bits_of
length_bits_of [] = refl
length_bits_of (x ∷ s) = omega (arith, length-append (bits 8 x) (bits_of s), length_bits 8 x, length_bits_of s)

pub length_bits_of_take : (s : List ℕ) (n : ℕ) → n ≤ length s → length (bits_of (take n s)) ≡ 8 * n
length_bits_of_take s n h = omega (arith, length_bits_of (take n s), length-take-le n s h)

pub bits_of_append : (s t : List ℕ) → bits_of (s ++ t) ≡ bits_of s ++ bits_of t
unfolding bits_of
bits_of_append [] t = refl
bits_of_append (x ∷ s) t = ap (λ (b : List Bool). bits 8 x ++ b) (bits_of_append s t) ∙ sym (append_assoc (bits 8 x) (bits_of s) (bits_of t))

-- ---- bytes, their bits, and the bytes again

first_byte_lem : (x : ℕ) (b : List Bool) → x < 256 → first_byte (bits 8 x ++ b) ≡ x
unfolding first_byte
first_byte_lem x b h =
    ap (λ (l : List Bool). value (take 8 l)) (append_assoc (bits 8 x) b (replicate 8 false))
    ∙ ap value (take_at (bits 8 x) (b ++ replicate 8 false) 8 (length_bits 8 x)) ∙ value_bits 8 x h

bytes_from_lem : (s : List ℕ) → AreBytes s → bytes_from (length s) (bits_of s) ≡ s
unfolding bytes_from bits_of
bytes_from_lem [] h = refl
bytes_from_lem (x ∷ s) h =
    ap₂ (λ (y : ℕ) (l : List ℕ). y ∷ l) (first_byte_lem x (bits_of s) (h 0))
    (ap (bytes_from (length s)) (drop_at (bits 8 x) (bits_of s) 8 (length_bits 8 x)) ∙ bytes_from_lem s (λ i. h (suc i)))

pub bytes_of_bits_of : (s : List ℕ) → AreBytes s → bytes_of (bits_of s) ≡ s
unfolding bytes_of
bytes_of_bits_of s h =
    let count : (length (bits_of s) + 7) / 8 ≡ length s = omega (arith, length_bits_of s) in
    ap (λ (n : ℕ). bytes_from n (bits_of s)) count ∙ bytes_from_lem s h

-- bytes with the same bits are the same
pub bits_of_injective : (s t : List ℕ) → AreBytes s → AreBytes t → bits_of s ≡ bits_of t → s ≡ t
bits_of_injective s t hs ht e = sym (bytes_of_bits_of s hs) ∙ ap bytes_of e ∙ bytes_of_bits_of t ht

-- ---- bits, the bytes that hold them, and their bits

length_bytes_from : (n : ℕ) (b : List Bool) → length (bytes_from n b) ≡ n
unfolding bytes_from
length_bytes_from zero b = refl
length_bytes_from (suc n) b = ap suc (length_bytes_from n (drop 8 b))

pub length_bytes_of : (b : List Bool) → length (bytes_of b) ≡ byte_count (length b)
unfolding bytes_of
length_bytes_of b = length_bytes_from (byte_count (length b)) b

length_first : (b : List Bool) → length (take 8 (b ++ replicate 8 false)) ≡ 8
length_first b = omega (arith, length-take 8 (b ++ replicate 8 false), length-append b (replicate 8 false), length-replicate 8 false)

first_byte_lt : (b : List Bool) → first_byte b < 256
unfolding first_byte
first_byte_lt b = subst (λ (n : ℕ). first_byte b < 2 ^ n) (length_first b) (value_lt (take 8 (b ++ replicate 8 false)))

bits_first_byte : (b : List Bool) → bits 8 (first_byte b) ≡ take 8 (b ++ replicate 8 false)
unfolding first_byte
bits_first_byte b = bits_value 8 (take 8 (b ++ replicate 8 false)) (length_first b)

bytes_from_bytes : (n : ℕ) (b : List Bool) → AreBytes (bytes_from n b)
unfolding bytes_from
bytes_from_bytes zero b i = omega arith
bytes_from_bytes (suc n) b zero = first_byte_lt b
bytes_from_bytes (suc n) b (suc i) = bytes_from_bytes n (drop 8 b) i

pub bytes_of_bytes : (b : List Bool) → AreBytes (bytes_of b)
unfolding bytes_of
bytes_of_bytes b = bytes_from_bytes (byte_count (length b)) b

take_zeros : (i j : ℕ) → take i (replicate (i + j) false) ≡ replicate i false
take_zeros i j =
    ap (take i) (sym (replicate-append-replicate i j false)) ∙ take_at (replicate i false) (replicate j false) i (length-replicate i false)

-- the first byte's bits, those after it and the filling are the bits and the filling
abbrev Cut : List Bool → ℕ → Type 0
Cut b n =
    take 8 (b ++ replicate 8 false) ++ (drop 8 b ++ replicate (8 * n - length (drop 8 b)) false) ≡ b ++ replicate (8 * suc n - length b) false

first_full : (b : List Bool) (n : ℕ) → 8 ≤ length b → Cut b n
first_full b n h =
    let left : 8 * n - length (drop 8 b) ≡ 8 * suc n - length b = omega (arith, length-drop 8 b) in
    ap₂ (λ (x : List Bool) (k : ℕ). x ++ (drop 8 b ++ replicate k false)) (take-append-le 8 b (replicate 8 false) h) left
    ∙ sym (append_assoc (take 8 b) (drop 8 b) (replicate (8 * suc n - length b) false))
    ∙ ap (λ (x : List Bool). x ++ replicate (8 * suc n - length b) false) (take-append-drop 8 b)

first_filled : (b : List Bool) (n : ℕ) → length b < 8 → Cut b n
first_filled b n h =
    let short : List Bool = replicate (8 - length b) false in
    let eight : 8 ≡ length b + (8 - length b) = omega arith in
    let eight' : 8 ≡ (8 - length b) + length b = omega arith in
    let none : drop 8 b ≡ [] = drop_of_length-le b {i = 8} (omega arith) in
    let left : 8 - length b + (8 * n - 0) ≡ 8 * suc n - length b = omega arith in
    let first : take 8 (b ++ replicate 8 false) ≡ b ++ short =
    ap (λ (k : ℕ). take k (b ++ replicate 8 false)) eight ∙ take-append-add b (replicate 8 false) (8 - length b)
    ∙ ap (λ (k : ℕ). b ++ take (8 - length b) (replicate k false)) eight' ∙ ap (λ (x : List Bool). b ++ x) (take_zeros (8 - length b) (length b)) in
    ap₂ (λ (x y : List Bool). x ++ (y ++ replicate (8 * n - length y) false)) first none
    ∙ append_assoc b short (replicate (8 * n - 0) false)
    ∙ ap (λ (x : List Bool). b ++ x) (replicate-append-replicate (8 - length b) (8 * n - 0) false ∙ ap (λ (k : ℕ). replicate k false) left)

bits_of_from : (n : ℕ) (b : List Bool) → length b ≤ 8 * n → bits_of (bytes_from n b) ≡ b ++ replicate (8 * n - length b) false
unfolding bytes_from bits_of
bits_of_from zero [] h = refl
bits_of_from zero (x ∷ b) h = absurd (omega arith)
bits_of_from (suc n) b h =
    ap₂ (λ (x y : List Bool). x ++ y) (bits_first_byte b) (bits_of_from n (drop 8 b) (omega (arith, length-drop 8 b)))
    ∙ elim (dec_le 8 (length b)) [ yes k ↦ first_full b n k | no k ↦ first_filled b n (lt_of_not-le k) ]

pub bits_of_bytes_of : (b : List Bool) → bits_of (bytes_of b) ≡ b ++ replicate (filling_width (length b)) false
unfolding bytes_of filling_width
bits_of_bytes_of b = bits_of_from (byte_count (length b)) b (omega arith)

-- bits that fill whole bytes need no filling
pub bits_of_bytes_of_whole : (b : List Bool) (n : ℕ) → length b ≡ 8 * n → bits_of (bytes_of b) ≡ b
unfolding filling_width
bits_of_bytes_of_whole b n e =
    let none : filling_width (length b) ≡ 0 = omega arith in
    bits_of_bytes_of b ∙ ap (λ (k : ℕ). b ++ replicate k false) none ∙ append-nil b
