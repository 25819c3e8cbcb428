-- One bit of a number, and one bit of bytes: where it stands, and the number or the bytes with another bit in its place.
-- In j + 1 + m bits the bit at place j counts 2 ^ m. Assumes nothing.
use Rattle.std.specs.Prelude.{Bool, List, [], ◌∷◌, ◌++◌, ◌≡◌, ℕ, zero, suc, ◌+◌, ◌-◌, ◌*◌, ◌/◌, ◌%◌, ◌^◌, ◌≤◌, ◌<◌, eqb, length, take, drop}
use Rattle.std.specs.Prelude.{get_or, set}
use Rattle.vocabulary.specs.{sym, ap, ap₂, ◌∙◌, subst, zero-add, add-zero, add-suc, suc-add, mod-lt, pow-suc, arith, digits_lt}
use Rattle.vocabulary.specs.{take-append-drop, pow_pos, pow-add, shr_lt, split, append_snoc, set_at, split_at, set_split, set-append_left}
use Rattle.vocabulary.specs.{take-set-le, drop_at, length-take-le}
use Rattle.bits.specs.Bits.{odd, bits, bits_of}
use Rattle.bits.proofs.{Bytes.length_bits_of_take, Bytes.bits_of_append, Fields.laid}
use Rattle.bits.proofs.Numbers.{length_bits, bits_append, half_below}

-- ---- a bit of a number

-- bits before a place, the bit there, bits after it
joined : (j m a c l : ℕ) → c < 2 → l < 2 ^ m → bits (j + suc m) ((a * 2 + c) * 2 ^ m + l) ≡ bits j a ++ (odd c ∷ bits m l)
unfolding bits odd
joined j m a c l h k =
    let high : (a * 2 + c) / 2 ≡ a = omega arith in
    let low : (a * 2 + c) % 2 ≡ c % 2 = omega arith in
    ap (λ (n : ℕ). bits n ((a * 2 + c) * 2 ^ m + l)) (add-suc j m ∙ sym (suc-add j m))
    ∙ bits_append (suc j) m (a * 2 + c) l k
    ∙ ap₂ (λ (x y : ℕ). bits j x ++ (eqb y 1 ∷ []) ++ bits m l) high low ∙ append_snoc (bits j a) (odd c) (bits m l)

parted : (j m n : ℕ) → bits (j + suc m) n ≡ bits j (n / 2 ^ m / 2) ++ (odd (n / 2 ^ m % 2) ∷ bits m (n % 2 ^ m))
parted j m n =
    let whole : n ≡ (n / 2 ^ m / 2 * 2 + n / 2 ^ m % 2) * 2 ^ m + n % 2 ^ m =
    sym (split n m) ∙ ap (λ (q : ℕ). q * 2 ^ m + n % 2 ^ m) (omega arith) in
    ap (bits (j + suc m)) whole ∙ joined j m (n / 2 ^ m / 2) (n / 2 ^ m % 2) (n % 2 ^ m) (omega arith) (mod-lt n (pow_pos m))

-- the number with another bit there
pub place_set : (j m n c : ℕ) → c < 2 → bits (j + suc m) ((n / 2 ^ m / 2 * 2 + c) * 2 ^ m + n % 2 ^ m) ≡ set (bits (j + suc m) n) j (odd c)
place_set j m n c h =
    joined j m (n / 2 ^ m / 2) c (n % 2 ^ m) h (mod-lt n (pow_pos m))
    ∙ sym (ap (λ (b : List Bool). set b j (odd c)) (parted j m n)
    ∙ set_at (bits j (n / 2 ^ m / 2)) (odd (n / 2 ^ m % 2)) (bits m (n % 2 ^ m)) (odd c) j (length_bits j (n / 2 ^ m / 2)))

pub place_set_lt : (j m n c : ℕ) → n < 2 ^ (j + suc m) → c < 2 → (n / 2 ^ m / 2 * 2 + c) * 2 ^ m + n % 2 ^ m < 2 ^ (j + suc m)
place_set_lt j m n c h k =
    let places : j + suc m ≡ suc j + m = add-suc j m ∙ sym (suc-add j m) in
    let quotient : n / 2 ^ m < 2 ^ suc j = shr_lt (suc j) m (subst (λ (i : ℕ). n < 2 ^ i) places h) in
    let halved : n / 2 ^ m / 2 < 2 ^ j = half_below j (n / 2 ^ m) quotient in
    let higher : n / 2 ^ m / 2 * 2 + c < 2 ^ suc j = rw pow-suc (omega arith) in
    rw (places, pow-add 2 (suc j) m) (digits_lt higher (mod-lt n (pow_pos m)))

pub power_pos : {counts : ℕ} (m : ℕ) → counts ≡ 2 ^ m → 0 < counts
power_pos m e = rw e (pow_pos m)

-- ---- a bit of a byte; it counts `counts`

module _ (place counts n : ℕ) (within : place < 8) (power : counts ≡ 2 ^ (7 - place)) where
  eight : place + suc (7 - place) ≡ 8
  eight = omega arith

  pub byte_with_bit : (c : ℕ) → c < 2 → bits 8 ((n / counts / 2 * 2 + c) * counts + n % counts) ≡ set (bits 8 n) place (odd c)
  byte_with_bit c h =
      rw power
      (subst (λ (w : ℕ). bits w ((n / 2 ^ (7 - place) / 2 * 2 + c) * 2 ^ (7 - place) + n % 2 ^ (7 - place)) ≡ set (bits w n) place (odd c))
      eight (place_set place (7 - place) n c h))

  pub byte_with_bit_lt : (c : ℕ) → c < 2 → n < 256 → (n / counts / 2 * 2 + c) * counts + n % counts < 256
  byte_with_bit_lt c h k =
      let fits : n < 2 ^ (place + suc (7 - place)) = rw eight k in
      rw power
      (subst (λ (w : ℕ). (n / 2 ^ (7 - place) / 2 * 2 + c) * 2 ^ (7 - place) + n % 2 ^ (7 - place) < 2 ^ w)
      eight (place_set_lt place (7 - place) n c fits h))

-- ---- a bit of bytes

set_append_add : (xs ys : List Bool) (n : ℕ) (c : Bool) → set (xs ++ ys) (length xs + n) c ≡ xs ++ set ys n c
set_append_add [] ys n c = ap (λ (k : ℕ). set ys k c) (zero-add n)
set_append_add (x ∷ xs) ys n c =
    ap (λ (k : ℕ). set (x ∷ (xs ++ ys)) k c) (suc-add (length xs) n) ∙ ap (λ (l : List Bool). x ∷ l) (set_append_add xs ys n c)

module _ (s : List ℕ) (i : ℕ) (within : i < length s) where
  before_length : length (bits_of (take i s)) ≡ 8 * i
  before_length = length_bits_of_take s i (omega arith)

  -- bits before a byte, the byte's, those after it
  around : (x : ℕ) → bits_of (take i s ++ x ∷ drop (suc i) s) ≡ bits_of (take i s) ++ (bits 8 x ++ bits_of (drop (suc i) s))
  unfolding bits_of
  around x = bits_of_append (take i s) (x ∷ drop (suc i) s)

  whole : bits_of s ≡ bits_of (take i s) ++ (bits 8 (get_or s i 0) ++ bits_of (drop (suc i) s))
  whole = ap bits_of (split_at s i 0 within) ∙ around (get_or s i 0)

  -- a byte with another bit at a place makes bytes with that bit there
  pub byte_set : (j x : ℕ) (c : Bool) → j < 8 → bits 8 x ≡ set (bits 8 (get_or s i 0)) j c → bits_of (set s i x) ≡ set (bits_of s) (8 * i + j) c
  byte_set j x c h e =
      let there : 8 * i + j ≡ length (bits_of (take i s)) + j = ap (λ (n : ℕ). n + j) (sym before_length) in
      ap bits_of (set_split s i x within) ∙ around x
      ∙ sym (ap₂ (λ (b : List Bool) (n : ℕ). set b n c) whole there
      ∙ set_append_add (bits_of (take i s)) (bits 8 (get_or s i 0) ++ bits_of (drop (suc i) s)) j c
      ∙ ap (λ (b : List Bool). bits_of (take i s) ++ b)
      (set-append_left (bits 8 (get_or s i 0)) (bits_of (drop (suc i) s)) j c (omega (arith, length_bits 8 (get_or s i 0)))
      ∙ ap (λ (b : List Bool). b ++ bits_of (drop (suc i) s)) (sym e)))

-- ---- a bit of bytes by a position and how many bits further it is

module _ (s : List ℕ) (at further : ℕ) (within : at + further < 8 * length s) where
  abbrev index : ℕ
  index = at / 8 + (at % 8 + further) / 8

  abbrev place : ℕ
  place = (at % 8 + further) % 8

  there : 8 * index + place ≡ at + further
  there = omega arith

  in_bytes : index < length s
  in_bytes = omega arith

  pub set_further : (x : ℕ) (c : Bool) → bits 8 x ≡ set (bits 8 (get_or s index 0)) place c → bits_of (set s index x) ≡ set (bits_of s) (at + further) c
  set_further x c e = byte_set s index in_bytes place x c (omega arith) e ∙ ap (λ (n : ℕ). set (bits_of s) n c) there

-- ---- a run of bits, written from its end

drop_set : (b : List Bool) (n : ℕ) (x : Bool) → n < length b → drop n (set b n x) ≡ x ∷ drop (suc n) b
drop_set b n x h = ap (drop n) (set_split b n x h) ∙ drop_at (take n b) (x ∷ drop (suc n) b) n (length-take-le n b (omega arith))

lay : (b : List Bool) (at j n : ℕ) → at + j < length b → laid (set b (at + j) (odd n)) at j (n / 2) ≡ laid b at (suc j) n
unfolding bits
lay b at j n h =
    ap₂ (λ (x y : List Bool). x ++ (bits j (n / 2) ++ y)) (take-set-le at b (at + j) (odd n) (omega arith)) (drop_set b (at + j) (odd n) h)
    ∙ sym (ap (λ (i : ℕ). take at b ++ (bits (suc j) n ++ drop i b)) (add-suc at j)
    ∙ ap (λ (x : List Bool). take at b ++ x) (append_snoc (bits j (n / 2)) (odd n) (drop (suc (at + j)) b)))

-- the last of the bits to write, written, leaves the rest of them to write
pub lay_last : (b : List Bool) (at left n : ℕ) → 0 < left → at + left ≤ length b
    → laid (set b (at + (left - 1)) (odd (n % 2))) at (left - 1) (n / 2) ≡ laid b at left n
unfolding odd
lay_last b at zero n p h = absurd (omega arith)
lay_last b at (suc j) n p h =
    let less : suc j - 1 ≡ j = omega arith in
    let last : n % 2 % 2 ≡ n % 2 = omega arith in
    rw (less, last) (lay b at j n (omega arith))

-- with none left all are written
pub lay_none : (b : List Bool) (at n : ℕ) → laid b at 0 n ≡ b
unfolding bits
lay_none b at n = ap (λ (i : ℕ). take at b ++ drop i b) (add-zero at) ∙ take-append-drop at b
