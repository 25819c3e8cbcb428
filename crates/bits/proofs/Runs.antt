-- Whole bytes as one number, and a field as a part of it. Assumes nothing.
use Rattle.std.specs.Prelude.{Bool, List, [], ◌∷◌, ◌++◌, ◌≡◌, refl, ℕ, ◌+◌, ◌-◌, ◌*◌, ◌/◌, ◌%◌, ◌^◌, ◌≤◌, ◌<◌, length, take, drop, get_or}
use Rattle.vocabulary.specs.{append-nil, sym, ap, ap₂, ◌∙◌, lt_of_lt_of_le, add-one, arith, digits_div, digits_mod, length-drop}
use Rattle.vocabulary.specs.{take-append-drop, pow_mono, take-suc, take-add, take-append-le, drop-append-le, drop_at, drop-drop}
use Rattle.vocabulary.specs.{get_or-take, get_or-drop, length-take-le, take_all}
use Rattle.std.specs.Int.{from_be_bytes, w64}
use Rattle.bits.specs.Bits.{bits, value, bits_of, field_at}
use Rattle.bits.proofs.{Bytes.AreBytes, Bytes.length_bits_of_take, Bytes.bits_of_append, Fields.is_inside, Fields.field_at_is}
use Rattle.bits.proofs.Numbers.{length_bits, value_append, value_bits, value_lt}

-- ---- a part of a run of bits

-- the number without its last bits
value_before : (a b : List Bool) (q : ℕ) → length b ≡ q → value (a ++ b) / 2 ^ q ≡ value a
value_before a b q e = rw (← e, value_append) (digits_div (value a) (value_lt b))

-- and what it leaves over
value_after : (a b : List Bool) (w : ℕ) → length b ≡ w → value (a ++ b) % 2 ^ w ≡ value b
value_after a b w e = rw (← e, value_append) (digits_mod (value a) (value_lt b))

-- w bits with p before them and q after them
value_part : (b : List Bool) (p w q : ℕ) → length b ≡ p + w + q → value b / 2 ^ q % 2 ^ w ≡ value (take w (drop p b))
value_part b p w q e =
    let upper : value b / 2 ^ q ≡ value (take (p + w) b) =
    ap (λ (l : List Bool). value l / 2 ^ q) (sym (take-append-drop (p + w) b))
    ∙ value_before (take (p + w) b) (drop (p + w) b) q (omega (arith, length-drop (p + w) b)) in
    ap (λ (n : ℕ). n % 2 ^ w) (upper ∙ ap value (take-add p w b))
    ∙ value_after (take p b) (take w (drop p b)) w (length-take-le w (drop p b) (omega (arith, length-drop p b)))

-- ---- runs of bytes

-- the number of k bytes from the i-th on
abbrev pub run : List ℕ → ℕ → ℕ → ℕ
run s i k = value (bits_of (take k (drop i s)))

length_run : (s : List ℕ) (i k : ℕ) → i + k ≤ length s → length (bits_of (take k (drop i s))) ≡ 8 * k
length_run s i k within = length_bits_of_take (drop i s) k (omega (arith, length-drop i s))

-- ---- bytes taken one by one

-- the number of the first k bytes
abbrev taken : List ℕ → ℕ → ℕ
taken s k = value (bits_of (take k s))

pub taken_none : value (bits_of []) ≡ 0
unfolding value bits_of
taken_none = refl

-- one byte more
pub taken_more : (s : List ℕ) (k : ℕ) → k < length s → get_or s k 0 < 256 → value (bits_of (take (k + 1) s)) ≡ value (bits_of (take k s)) * 256 + get_or s k 0
unfolding bits_of
taken_more s k within small =
    let front : List Bool = bits_of (take k s) in
    let last : ℕ = get_or s k 0 in
    ap (taken s) (add-one k) ∙ ap (λ (l : List ℕ). value (bits_of l)) (take-suc s k 0 within)
    ∙ ap value (bits_of_append (take k s) (last ∷ []) ∙ ap (λ (l : List Bool). front ++ l) (append-nil (bits 8 last)))
    ∙ value_append front (bits 8 last)
    ∙ ap₂ (λ (n x : ℕ). value front * 2 ^ n + x) (length_bits 8 last) (value_bits 8 last small)

-- as many bytes as a field can straddle fit in 40 bits
pub taken_short : (s : List ℕ) (k : ℕ) → k ≤ length s → k ≤ 5 → value (bits_of (take k s)) < 2 ^ 40
taken_short s k within few =
    let long : length (bits_of (take k s)) ≤ 40 = omega (arith, length_bits_of_take s k within) in
    lt_of_lt_of_le (value_lt (bits_of (take k s))) (pow_mono long)

-- eight bytes at once, as the processor reads them
eight_bytes : (s : List ℕ) → ((k : ℕ) → k < 8 → get_or s k 0 < 256) → length s ≡ 8 → from_be_bytes w64 s ≡ value (bits_of s)
eight_bytes s h long =
    let each : (k : ℕ) → k < 8 → taken s (k + 1) ≡ taken s k * 256 + get_or s k 0 = (λ k few. taken_more s k (omega arith) (h k few)) in
    let all : taken s 8 ≡ value (bits_of s) = ap (λ (l : List ℕ). value (bits_of l)) (take_all 8 s (omega arith)) in
    omega (
      arith,
      taken_none,
      all,
      each 0 (omega arith),
      each 1 (omega arith),
      each 2 (omega arith),
      each 3 (omega arith),
      each 4 (omega arith),
      each 5 (omega arith),
      each 6 (omega arith),
      each 7 (omega arith),
    )

pub eight_within : (s t : List ℕ) (i : ℕ) → AreBytes s → i + 8 ≤ length s → t ≡ take (i + 8 - i) (drop i s)
    → from_be_bytes w64 t ≡ value (bits_of (take 8 (drop i s)))
eight_within s t i h within e =
    let eight : i + 8 - i ≡ 8 = omega arith in
    let are : t ≡ take 8 (drop i s) = e ∙ ap (λ (n : ℕ). take n (drop i s)) eight in
    let bytes : (k : ℕ) → k < 8 → get_or (take 8 (drop i s)) k 0 < 256 = (λ k few. omega (arith, get_or-take 8 (drop i s) k 0 few, get_or-drop i s k 0, h (i + k))) in
    ap (from_be_bytes w64) are ∙ eight_bytes (take 8 (drop i s)) bytes (length-take-le 8 (drop i s) (omega (arith, length-drop i s)))

-- ---- a field within bytes

-- the bits before n bytes, theirs, and those after
around : (s : List ℕ) (i n : ℕ) → bits_of s ≡ bits_of (take i s) ++ (bits_of (take n (drop i s)) ++ bits_of (drop n (drop i s)))
around s i n =
    ap bits_of (sym (take-append-drop i s)) ∙ bits_of_append (take i s) (drop i s)
    ∙ ap (λ (l : List Bool). bits_of (take i s) ++ l) (ap bits_of (sym (take-append-drop n (drop i s))) ∙ bits_of_append (take n (drop i s)) (drop n (drop i s)))

-- bits from a place within n bytes on
pub within_run : (s : List ℕ) (i n p w : ℕ) → i + n ≤ length s → p + w ≤ 8 * n
    → take w (drop (8 * i + p) (bits_of s)) ≡ take w (drop p (bits_of (take n (drop i s))))
within_run s i n p w within fits =
    let these : List Bool = bits_of (take n (drop i s)) in
    let rest : List Bool = bits_of (drop n (drop i s)) in
    let long : length these ≡ 8 * n = length_run s i n within in
    ap (take w)
    (sym (drop-drop p (8 * i) (bits_of s)) ∙ ap (λ (l : List Bool). drop p (drop (8 * i) l)) (around s i n)
    ∙ ap (drop p) (drop_at (bits_of (take i s)) (these ++ rest) (8 * i) (length_bits_of_take s i (omega arith))) ∙ drop-append-le p these rest (omega arith))
    ∙ take-append-le w (drop p these) rest (omega (arith, length-drop p these))

-- a field is a part of the number of the bytes that it lies in
pub field_part : (s : List ℕ) (at w n : ℕ) {number below : ℕ} → number ≡ run s (at / 8) n → at / 8 + n ≤ length s → w ≤ 32
    → below ≡ 8 * n - (at % 8 + w) → at % 8 + w ≤ 8 * n → number / 2 ^ below % 2 ^ w ≡ field_at s at w
field_part s at w n {below = q} taken within narrow left fits =
    let place : 8 * (at / 8) + at % 8 ≡ at = omega arith in
    ap (λ (k : ℕ). k / 2 ^ q % 2 ^ w) taken
    ∙ value_part (bits_of (take n (drop (at / 8) s))) (at % 8) w q (omega (arith, length_run s (at / 8) n within))
    ∙ ap value (sym (within_run s (at / 8) n (at % 8) w within fits))
    ∙ ap (λ (k : ℕ). value (take w (drop k (bits_of s)))) place ∙ sym (field_at_is s at w (is_inside s at w (omega arith) narrow))
