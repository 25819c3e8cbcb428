-- Fields that are packed one after the other: what is packed so far grows by each field's bits. Assumes nothing.
use Rattle.std.specs.Prelude.{ℕ, ◌+◌, ◌-◌, ◌*◌, ◌/◌, ◌%◌, ◌^◌, ◌≤◌, ◌<◌, Bool, false, true, List, [], ◌∷◌, ◌++◌, ◌≡◌, refl, length, take}
use Rattle.std.specs.Prelude.{set, get_or, replicate, eqb}
use Rattle.vocabulary.specs.{append_assoc, append-nil, sym, ap, ap₂, subst, ◌∙◌, add-zero, add_assoc, mod-lt, arith, length-append}
use Rattle.vocabulary.specs.{add-one, length-set, eqb-true, eqb-false, take-suc-set, get_or-set_same, get_or-set_other, length-replicate, replicate-append-replicate, digits_lt, length-take-le}
use Rattle.vocabulary.specs.{take_all, take-append_seam, pow_pos, pow-add, split, low}
use Rattle.vocabulary.specs.{mod-pow-add, mod-mod-pow, shl_lt, shl-shr, pow_mono, mod-eq_of_lt}
use Rattle.bits.specs.Bits.{Field, bits, bits_of, bytes_of, byte_count, filling_width, widths, total_width, packed_bits}
use Rattle.bits.proofs.Bytes.{AreBytes, length_bits_of, bits_of_append, bits_of_injective, bytes_of_bytes, bits_of_bytes_of}
use Rattle.bits.proofs.Numbers.{length_bits, bits_append, value_bits_mod, bits_value, bits_zero}
use Rattle.bits.proofs.Packed.{packed_bits_append, total_width_append, widths_append}
use Rattle.sheet_writer.specs.{declared.packer.Packer.Packer, Parts.field_from}
use Rattle.sheet_writer.specs.Packer.{packer_from, packed_so_far, packed_count, WellHeld, HasRoom, Packs, word_bytes}

-- ---- fields after fields

pub packs_none : (s : List ℕ) (p : Packer) → WellHeld p → Packs s p [] s p
unfolding total_width widths packed_bits
packs_none s p well = record {
  well = well;
  counted = sym (add-zero (packed_count p));
  holds = sym (append-nil (packed_so_far s p));
}

pub packs_then : (a : List ℕ) (p : Packer) (fs gs : List Field) {b c : List ℕ} {q r : Packer}
    → Packs a p fs b q → Packs b q gs c r → Packs a p (fs ++ gs) c r
packs_then a p fs gs first second = record {
  well = second.well;
  counted =
      second.counted ∙ ap (λ (n : ℕ). n + total_width (widths gs)) first.counted
      ∙ add_assoc (packed_count p) (total_width (widths fs)) (total_width (widths gs))
      ∙ ap (λ (n : ℕ). packed_count p + n)
      (sym (ap total_width (widths_append fs gs) ∙ total_width_append (widths fs) (widths gs)));
  holds =
      second.holds ∙ ap (λ (b : List Bool). b ++ packed_bits gs) first.holds
      ∙ append_assoc (packed_so_far a p) (packed_bits fs) (packed_bits gs)
      ∙ ap (λ (b : List Bool). packed_so_far a p ++ b) (sym (packed_bits_append fs gs));
}

-- ---- one field

-- as many bits of a number as a field is wide
last_bits : (w n : ℕ) → bits w (n % 2 ^ w) ≡ bits w n
last_bits w n = ap (bits w) (sym (value_bits_mod w n)) ∙ bits_value w (bits w n) (length_bits w n)

-- the last bits of a number that has lost bits before them
lost_bits : (count more n : ℕ) → bits count (n % 2 ^ (more + count)) ≡ bits count n
lost_bits count more n = sym (last_bits count (n % 2 ^ (more + count))) ∙ ap (bits count) (mod-mod-pow n more count) ∙ last_bits count n

-- what is shifted in 64 bits
shifted : (held width more : ℕ) → held * 2 ^ width % 2 ^ (more + width) ≡ held % 2 ^ more * 2 ^ width
shifted held width more =
    mod-pow-add (held * 2 ^ width) more width
    ∙ ap₂ (λ (a b : ℕ). a % 2 ^ more * 2 ^ width + b) (shl-shr held width)
    (ap (λ (n : ℕ). n % 2 ^ width) (sym (add-zero (held * 2 ^ width))) ∙ low held width (pow_pos width))
    ∙ add-zero (held % 2 ^ more * 2 ^ width)

-- as the code takes the last bits of a value
pub one_shifted : (width : ℕ) → width ≤ 32 → 1 * 2 ^ width % 2 ^ 64 ≡ 2 ^ width
one_shifted width narrow =
    let fits : 2 ^ width ≤ 2 ^ 32 = pow_mono narrow in
    let alone : 1 * 2 ^ width ≡ 2 ^ width = omega arith in
    mod-eq_of_lt (omega (arith, fits, alone)) ∙ alone

-- what is held after a field
abbrev pub together : (held width value : ℕ) → ℕ
together held width value = held * 2 ^ width % 2 ^ 64 + value % 2 ^ width

module _ (held width value : ℕ) (narrow : width ≤ 32) where
  all-64 : 64 - width + width ≡ 64
  all-64 = omega arith

  apart : together held width value ≡ held % 2 ^ (64 - width) * 2 ^ width + value % 2 ^ width
  apart =
      ap (λ (n : ℕ). n + value % 2 ^ width)
      (ap (λ (n : ℕ). held * 2 ^ width % 2 ^ n) (sym all-64) ∙ shifted held width (64 - width))

  pub together_is : {v : ℕ} → v ≡ value → held * 2 ^ width % 2 ^ 64 + v % (1 * 2 ^ width % 2 ^ 64) ≡ together held width value
  together_is e = ap₂ (λ (n d : ℕ). held * 2 ^ width % 2 ^ 64 + n % d) e (one_shifted width narrow)

  pub together_fits : together held width value < 2 ^ 64
  together_fits =
      rw apart
      (subst (λ (n : ℕ). held % 2 ^ (64 - width) * 2 ^ width + value % 2 ^ width < n) (sym (pow-add 2 (64 - width) width) ∙ ap (λ (n : ℕ). 2 ^ n) all-64)
      (digits_lt (mod-lt held (pow_pos (64 - width))) (mod-lt value (pow_pos width))))

  pub together_bits : (count : ℕ) → count < 32 → bits (count + width) (together held width value) ≡ bits count held ++ bits width value
  together_bits count few =
      let more : 64 - width - count + count ≡ 64 - width = omega arith in
      ap (bits (count + width)) apart
      ∙ bits_append count width (held % 2 ^ (64 - width)) (value % 2 ^ width) (mod-lt value (pow_pos width))
      ∙ ap₂ (λ (a b : List Bool). a ++ b)
      (ap (λ (n : ℕ). bits count (held % 2 ^ n)) (sym more) ∙ lost_bits count (64 - width - count) held) (last_bits width value)

one_field : (width value : ℕ) → packed_bits (field_from width value ∷ []) ≡ bits width value
unfolding packed_bits
one_field width value = append-nil (bits width value)

-- four bytes have the bits of their word
word_bits : (word : ℕ) → word < 2 ^ 32 → bits_of (word_bytes word) ≡ bits 32 word
unfolding bits_of
word_bits word fits =
    let first : ℕ = word / 16_777_216 in
    let second : ℕ = word / 65_536 % 256 in
    let third : ℕ = word / 256 % 256 in
    let last : ℕ = word % 256 in
    let low : bits 16 (third * 2 ^ 8 + last) ≡ bits 8 third ++ bits 8 last = bits_append 8 8 third last (omega arith) in
    let lower : bits 24 (second * 2 ^ 16 + (third * 2 ^ 8 + last)) ≡ bits 8 second ++ bits 16 (third * 2 ^ 8 + last) =
    bits_append 8 16 second (third * 2 ^ 8 + last) (omega arith) in
    let all : bits 32 (first * 2 ^ 24 + (second * 2 ^ 16 + (third * 2 ^ 8 + last))) ≡ bits 8 first ++ bits 24 (second * 2 ^ 16 + (third * 2 ^ 8 + last)) =
    bits_append 8 24 first (second * 2 ^ 16 + (third * 2 ^ 8 + last)) (omega arith) in
    let is : first * 2 ^ 24 + (second * 2 ^ 16 + (third * 2 ^ 8 + last)) ≡ word = omega arith in
    ap (λ (b : List Bool). bits 8 first ++ (bits 8 second ++ (bits 8 third ++ b))) (append-nil (bits 8 last))
    ∙ ap (λ (b : List Bool). bits 8 first ++ (bits 8 second ++ b)) (sym low)
    ∙ ap (λ (b : List Bool). bits 8 first ++ b) (sym lower)
    ∙ sym all ∙ ap (bits 32) is

module _ (s : List ℕ) (p : Packer) (well : WellHeld p) (width value : ℕ) (narrow : width ≤ 32) where
  abbrev all : ℕ
  all = together p.held width value

  -- it is held with what was held before
  pub packs_held : p.count + width < 32 → Packs s p (field_from width value ∷ []) s (packer_from all (p.count + width) p.at)
  unfolding total_width widths
  packs_held few = record {
    well = few;
    counted = omega arith;
    holds =
        ap (λ (b : List Bool). bits_of (take p.at s) ++ b) (together_bits p.held width value narrow p.count well)
        ∙ sym (append_assoc (bits_of (take p.at s)) (bits p.count p.held) (bits width value))
        ∙ ap (λ (b : List Bool). packed_so_far s p ++ b) (sym (one_field width value));
  }

  -- it fills four bytes with what was held before, and what is left over is held
  pub packs_out : (left : ℕ) {t : List ℕ} → p.count + width ≡ 32 + left → left < 32
      → take (p.at + 4) t ≡ take p.at s ++ word_bytes (all / 2 ^ left % 2 ^ 32)
      → Packs s p (field_from width value ∷ []) t (packer_from all left (p.at + 4))
  unfolding total_width widths
  packs_out left {t} counts few stored = record {
    well = few;
    counted = omega (arith, counts);
    holds =
        ap (λ (l : List ℕ). bits_of l ++ bits left all) stored
        ∙ ap (λ (b : List Bool). b ++ bits left all)
        (bits_of_append (take p.at s) (word_bytes word)
        ∙ ap (λ (b : List Bool). bits_of (take p.at s) ++ b) (word_bits word (mod-lt (all / 2 ^ left) (pow_pos 32))))
        ∙ append_assoc (bits_of (take p.at s)) (bits 32 word) (bits left all)
        ∙ ap (λ (b : List Bool). bits_of (take p.at s) ++ b) parts
        ∙ sym (append_assoc (bits_of (take p.at s)) (bits p.count p.held) (bits width value))
        ∙ ap (λ (b : List Bool). packed_so_far s p ++ b) (sym (one_field width value));
  }
    where
      word : ℕ
      word = all / 2 ^ left % 2 ^ 32

      parts : bits 32 word ++ bits left all ≡ bits p.count p.held ++ bits width value
      parts =
          ap₂ (λ (a b : List Bool). a ++ b) (last_bits 32 (all / 2 ^ left)) (sym (last_bits left all))
          ∙ sym (bits_append 32 left (all / 2 ^ left) (all % 2 ^ left) (mod-lt all (pow_pos left)))
          ∙ ap₂ bits (sym counts) (split all left)
          ∙ together_bits p.held width value narrow p.count well

-- ---- the end of a sheet

-- the packer as it is emptied byte by byte (M-103): what is out and the 32 bits that follow are what they were at first, and zero bits
pub record Emptied (start : List ℕ) (first from : ℕ) (sheet : List ℕ) (rest at : ℕ) : Type 0 where
  pub bytes : AreBytes sheet
  pub long : length sheet ≡ length start
  pub after : from ≤ at
  pub within : at ≤ length start
  pub small : rest < 2 ^ 32
  pub all : bits_of (take at sheet) ++ bits 32 rest ≡ (bits_of (take from start) ++ bits 32 first) ++ replicate (8 * (at - from)) false

pub emptied_none : (s : List ℕ) (first from : ℕ) → AreBytes s → from ≤ length s → first < 2 ^ 32 → Emptied s first from s first from
emptied_none s first from bytes within small =
    let none : 8 * (from - from) ≡ 0 = omega arith in
    record {
      bytes = bytes;
      long = refl;
      after = omega arith;
      within = within;
      small = small;
      all =
          sym (append-nil (bits_of (take from s) ++ bits 32 first))
          ∙ ap (λ (n : ℕ). (bits_of (take from s) ++ bits 32 first) ++ replicate n false) (sym none);
    }

set_bytes : (s : List ℕ) (i x : ℕ) → i < length s → x < 256 → AreBytes s → AreBytes (set s i x)
set_bytes s i x l small bytes j = go (eqb j i) refl
  where
    go : (same : Bool) → eqb j i ≡ same → get_or (set s i x) j 0 < 256
    go true e = subst (λ (n : ℕ). n < 256) (sym (ap (λ (k : ℕ). get_or (set s i x) k 0) (eqb-true j i e) ∙ get_or-set_same s i x 0 l)) small
    go false e = subst (λ (n : ℕ). n < 256) (sym (get_or-set_other s i j x 0 (eqb-false j i e))) (bytes j)

byte_out : (s : List ℕ) (i x : ℕ) → i < length s → bits_of (take (i + 1) (set s i x)) ≡ bits_of (take i s) ++ bits 8 x
unfolding bits_of
byte_out s i x l =
    ap (λ (n : ℕ). bits_of (take n (set s i x))) (add-one i) ∙ ap bits_of (take-suc-set s i x l) ∙ bits_of_append (take i s) (x ∷ [])
    ∙ ap (λ (b : List Bool). bits_of (take i s) ++ b) (append-nil (bits 8 x))

-- of two runs that go on differently, parts of one length are the same
front : (a b c d : List Bool) → length a ≡ length b → a ++ c ≡ b ++ d → a ≡ b
front a b c d long e = sym (take-append_seam a c) ∙ ap₂ take long e ∙ take-append_seam b d

module _ (s : List ℕ) (first from : ℕ) {sheet : List ℕ} {rest at : ℕ} (h : Emptied s first from sheet rest at) where
  byte_small : rest / 16_777_216 < 256
  byte_small = omega (arith, h.small)

  -- the byte that goes out, and the 24 bits behind it with a byte of 0 after them
  next_bits : bits 8 (rest / 16_777_216) ++ bits 32 (rest % 16_777_216 * 256) ≡ bits 32 rest ++ replicate 8 false
  next_bits =
      let low : ℕ = rest % 16_777_216 in
      let whole : rest / 16_777_216 * 2 ^ 24 + low ≡ rest = omega arith in
      let taken : bits 32 rest ≡ bits 8 (rest / 16_777_216) ++ bits 24 low =
      ap (bits 32) (sym whole) ∙ bits_append 8 24 (rest / 16_777_216) low (omega arith) in
      let left : bits 32 (low * 256) ≡ bits 24 low ++ replicate 8 false =
      ap (bits 32) (sym (add-zero (low * 256))) ∙ bits_append 24 8 low 0 (omega arith) ∙ ap (λ (b : List Bool). bits 24 low ++ b) (bits_zero 8) in
      ap (λ (b : List Bool). bits 8 (rest / 16_777_216) ++ b) left
      ∙ sym (append_assoc (bits 8 (rest / 16_777_216)) (bits 24 low) (replicate 8 false))
      ∙ ap (λ (b : List Bool). b ++ replicate 8 false) (sym taken)

  pub emptied_more : at < length sheet → Emptied s first from (set sheet at (rest / 16_777_216)) (rest % 16_777_216 * 256) (at + 1)
  emptied_more l = record {
    bytes = set_bytes sheet at (rest / 16_777_216) l byte_small h.bytes;
    long = length-set sheet at (rest / 16_777_216) ∙ h.long;
    after = omega (arith, h.after);
    within = omega (arith, l, h.long);
    small = omega arith;
    all =
        let more : 8 * (at - from) + 8 ≡ 8 * (at + 1 - from) = omega (arith, h.after) in
        ap (λ (b : List Bool). b ++ bits 32 (rest % 16_777_216 * 256)) (byte_out sheet at (rest / 16_777_216) l)
        ∙ append_assoc (bits_of (take at sheet)) (bits 8 (rest / 16_777_216)) (bits 32 (rest % 16_777_216 * 256))
        ∙ ap (λ (b : List Bool). bits_of (take at sheet) ++ b) next_bits
        ∙ sym (append_assoc (bits_of (take at sheet)) (bits 32 rest) (replicate 8 false))
        ∙ ap (λ (b : List Bool). b ++ replicate 8 false) h.all
        ∙ append_assoc (bits_of (take from s) ++ bits 32 first) (replicate (8 * (at - from)) false) (replicate 8 false)
        ∙ ap (λ (b : List Bool). (bits_of (take from s) ++ bits 32 first) ++ b)
        (replicate-append-replicate (8 * (at - from)) 8 false ∙ ap (λ (n : ℕ). replicate n false) more);
  }

-- what is held as 32 bits: its own, and zero bits
module _ (s : List ℕ) (p : Packer) (well : WellHeld p) (size : byte_count (packed_count p) ≡ length s) where
  abbrev first : ℕ
  first = p.held % 2 ^ p.count * 2 ^ (32 - p.count)

  thirty_two : p.count + (32 - p.count) ≡ 32
  thirty_two = omega (arith, well)

  pub first_small : first < 2 ^ 32
  first_small = subst (λ (n : ℕ). first < 2 ^ n) thirty_two (shl_lt p.count (32 - p.count) (mod-lt p.held (pow_pos p.count)))

  pub starts_within : p.at ≤ length s
  unfolding byte_count
  starts_within = omega (arith, size)

  first_bits : bits_of (take p.at s) ++ bits 32 first ≡ packed_so_far s p ++ replicate (32 - p.count) false
  first_bits =
      ap (λ (b : List Bool). bits_of (take p.at s) ++ b)
      (ap₂ bits (sym thirty_two) (sym (add-zero first))
      ∙ bits_append p.count (32 - p.count) (p.held % 2 ^ p.count) 0 (pow_pos (32 - p.count))
      ∙ ap₂ (λ (a b : List Bool). a ++ b) (last_bits p.count p.held) (bits_zero (32 - p.count)))
      ∙ sym (append_assoc (bits_of (take p.at s)) (bits p.count p.held) (replicate (32 - p.count) false))

  packed_long : length (packed_so_far s p) ≡ packed_count p
  packed_long =
      length-append (bits_of (take p.at s)) (bits p.count p.held)
      ∙ ap₂ ◌+◌ (length_bits_of (take p.at s) ∙ ap (λ (n : ℕ). 8 * n) (length-take-le p.at s starts_within)) (length_bits p.count p.held)

  filled : 8 * length s ≡ packed_count p + filling_width (length (packed_so_far s p))
  unfolding filling_width byte_count
  filled = rw packed_long (omega (arith, size))

  -- as the code shifts them to the front
  pub first_is : p.held * 2 ^ (32 - p.count) % 2 ^ 64 % 2 ^ 32 ≡ first
  first_is =
      mod-mod-pow (p.held * 2 ^ (32 - p.count)) 32 32 ∙ ap (λ (n : ℕ). p.held * 2 ^ (32 - p.count) % 2 ^ n) (sym thirty_two)
      ∙ shifted p.held (32 - p.count) p.count

  -- all bytes are out: what was packed, and zero bits that fill the last of them
  pub emptied_all : {sheet : List ℕ} {rest at : ℕ} → Emptied s first p.at sheet rest at → length sheet ≤ at → sheet ≡ bytes_of (packed_so_far s p)
  emptied_all {sheet} {rest} {at} h past =
      let packed : List Bool = packed_so_far s p in
      let filling : ℕ = filling_width (length packed) in
      let zeros : 32 - p.count + 8 * (at - p.at) ≡ filling + 32 = omega (arith, filled, h.after, h.within, h.long, past, well) in
      let out : bits_of sheet ++ bits 32 rest ≡ (packed ++ replicate filling false) ++ replicate 32 false =
      ap (λ (l : List ℕ). bits_of l ++ bits 32 rest) (sym (take_all at sheet past)) ∙ h.all
      ∙ ap (λ (b : List Bool). b ++ replicate (8 * (at - p.at)) false) first_bits
      ∙ append_assoc packed (replicate (32 - p.count) false) (replicate (8 * (at - p.at)) false)
      ∙ ap (λ (b : List Bool). packed ++ b)
      (replicate-append-replicate (32 - p.count) (8 * (at - p.at)) false ∙ ap (λ (n : ℕ). replicate n false) zeros
      ∙ sym (replicate-append-replicate filling 32 false))
      ∙ sym (append_assoc packed (replicate filling false) (replicate 32 false)) in
      let same_length : length (bits_of sheet) ≡ length (packed ++ replicate filling false) =
      length_bits_of sheet ∙ ap (λ (n : ℕ). 8 * n) h.long ∙ filled
      ∙ sym (length-append packed (replicate filling false) ∙ ap₂ ◌+◌ packed_long (length-replicate filling false)) in
      bits_of_injective sheet (bytes_of packed) h.bytes (bytes_of_bytes packed)
      (front (bits_of sheet) (packed ++ replicate filling false) (bits 32 rest) (replicate 32 false) same_length out ∙ sym (bits_of_bytes_of packed))

-- ---- room for what follows

pub room_less : {s : List ℕ} {p : Packer} {more : ℕ} (less : ℕ) → HasRoom s p more → less ≤ more → HasRoom s p less
room_less less room l = record { well = room.well; enough = omega (arith, room.enough, l) }

pub room_after : {a b : List ℕ} {p q : Packer} (fields : List Field) (more : ℕ) → Packs a p fields b q → length b ≡ length a
    → HasRoom a p (total_width (widths fields) + more) → HasRoom b q more
room_after fields more packs same room = record { well = packs.well; enough = omega (arith, packs.counted, same, room.enough) }

-- the same of one field
pub room_after_one : {a b : List ℕ} {p q : Packer} (width value more : ℕ) → Packs a p (field_from width value ∷ []) b q → length b ≡ length a
    → HasRoom a p (width + more) → HasRoom b q more
unfolding total_width widths
room_after_one width value more packs same room =
    room_after (field_from width value ∷ []) more packs same (record { well = room.well; enough = omega (arith, room.enough) })

-- the number that is packed, by what it is
pub holding : {a b : List ℕ} {p q : Packer} (width : ℕ) {v u : ℕ} → v ≡ u → Packs a p (field_from width v ∷ []) b q → Packs a p (field_from width u ∷ []) b q
holding {a} {b} {p} {q} width e packs = subst (λ (n : ℕ). Packs a p (field_from width n ∷ []) b q) e packs
