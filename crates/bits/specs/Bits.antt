-- What bit fields are. Document 01, "Packed sheets": "Fields run on without gaps, most significant bit first;
-- zero bits fill the last byte".
--
-- A bit is a Bool: true is 1, false is 0. A run of bits is a list, the most significant first. A byte is a number below 256.
-- Positions are counted in bits from 0, the most significant bit of the first byte.
use Rattle.std.specs.Prelude.{Bool, true, false, cond, ◌&&◌, List, [], ◌∷◌, ◌++◌, map, ℕ, zero, suc, ◌+◌, ◌-◌, ◌*◌, ◌/◌, ◌%◌, ◌^◌, ◌<◌, leb}
use Rattle.std.specs.Prelude.{eqb, length, take, drop, replicate}

-- ---- numbers and their bits

-- the last binary digit of n
unfoldable pub odd : ℕ → Bool
odd n = eqb (n % 2) 1

-- the last w binary digits of n
unfoldable pub bits : ℕ → ℕ → List Bool
bits zero n = []
bits (suc w) n = bits w (n / 2) ++ (odd n ∷ [])

-- what a bit counts in the last place
unfoldable pub digit : Bool → ℕ
digit false = 0
digit true = 1

-- the number that a run of bits stands for: a bit counts twice what the next one counts
unfoldable pub value : List Bool → ℕ
value [] = 0
value (b ∷ rest) = digit b * 2 ^ length rest + value rest

-- ---- bytes and their bits

-- the bits of a run of bytes, eight to a byte
unfoldable pub bits_of : List ℕ → List Bool
bits_of [] = []
bits_of (byte ∷ rest) = bits 8 byte ++ bits_of rest

-- a byte of the first eight bits; zero bits fill it where fewer are left
unfoldable pub first_byte : List Bool → ℕ
first_byte b = value (take 8 (b ++ replicate 8 false))

-- the first n bytes of a run of bits
unfoldable pub bytes_from : ℕ → List Bool → List ℕ
bytes_from zero b = []
bytes_from (suc n) b = first_byte b ∷ bytes_from n (drop 8 b)

-- how many bytes hold n bits, the last perhaps filled
unfoldable pub byte_count : ℕ → ℕ
byte_count n = (n + 7) / 8

-- how many zero bits fill the last byte after n bits
unfoldable pub filling_width : ℕ → ℕ
unfolding byte_count
filling_width n = 8 * byte_count n - n

-- the bytes that hold a run of bits
unfoldable pub bytes_of : List Bool → List ℕ
unfolding bytes_from byte_count
bytes_of b = bytes_from (byte_count (length b)) b

-- ---- a field: w bits from a position on, 32 at most

-- the field lies wholly within the bytes s
unfoldable pub inside : List ℕ → ℕ → ℕ → Bool
inside s at w = leb (at + w) (8 * length s) && leb w 32

-- what the field holds; 0 where it is not inside
unfoldable pub field_at : List ℕ → ℕ → ℕ → ℕ
field_at s at w = cond (inside s at w) (value (take w (drop at (bits_of s)))) 0

-- the bytes s with the last w bits of v in the field, and every other bit as it was; s itself where the field is not inside
unfoldable pub with_field : List ℕ → ℕ → ℕ → ℕ → List ℕ
with_field s at w v = cond (inside s at w) (bytes_of (take at (bits_of s) ++ (bits w v ++ drop (at + w) (bits_of s)))) s

-- ---- fields that run on without gaps

-- a field's width in bits, and the number that it holds
pub record Field : Type 0 where
  pub width : ℕ
  pub holds : ℕ

-- the widths of fields
unfoldable pub widths : List Field → List ℕ
widths fields = map (λ (f : Field). f.width) fields

-- how many bits fields of these widths take
unfoldable pub total_width : List ℕ → ℕ
total_width [] = 0
total_width (w ∷ rest) = w + total_width rest

-- the fields' bits, one field after the other
unfoldable pub packed_bits : List Field → List Bool
packed_bits [] = []
packed_bits (f ∷ rest) = bits f.width f.holds ++ packed_bits rest

-- the fields of the given widths, read off a run of bits from its start
unfoldable pub read_fields : List ℕ → List Bool → List Field
read_fields [] b = []
read_fields (w ∷ rest) b = record { width = w; holds = value (take w b) } ∷ read_fields rest (drop w b)

-- each number is one that its field's width can hold
unfoldable pub AllFit : List Field → Type 0
AllFit [] = Unit {0}
AllFit (f ∷ rest) = (f.holds < 2 ^ f.width) × AllFit rest
