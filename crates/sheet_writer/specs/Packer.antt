-- Fields packed one after the other, as the writer holds them: whole bytes that are out, and the bits after them that do not yet fill
-- four bytes.
use Rattle.std.specs.Prelude.{ℕ, ◌+◌, ◌*◌, ◌/◌, ◌%◌, ◌≤◌, ◌<◌, Bool, List, [], ◌∷◌, ◌++◌, ◌≡◌, length, take}
use Rattle.bits.specs.Bits.{Field, bits, bits_of, widths, total_width, packed_bits}
use Rattle.sheet_writer.specs.declared.packer.Packer.{Packer}

abbrev pub packer_from : (held count at : ℕ) → Packer
packer_from held count at = record { held = held; count = count; at = at }

abbrev pub none_packed : Packer
none_packed = packer_from 0 0 0

-- the bits that are packed so far, and how many
abbrev pub packed_so_far : (sheet : List ℕ) → Packer → List Bool
packed_so_far sheet p = bits_of (take p.at sheet) ++ bits p.count p.held

abbrev pub packed_count : Packer → ℕ
packed_count p = 8 * p.at + p.count

-- less than four bytes are held
abbrev pub WellHeld : Packer → Type 0
WellHeld p = p.count < 32

-- so many bits more have room
pub record HasRoom (sheet : List ℕ) (p : Packer) (more : ℕ) : Type 0 where
  pub well : WellHeld p
  pub enough : packed_count p + more ≤ 8 * length sheet

-- fields are packed after what was packed before
pub record Packs (entry : List ℕ) (p : Packer) (fields : List Field) (exit : List ℕ) (after : Packer) : Type 0 where
  pub well : WellHeld after
  pub counted : packed_count after ≡ packed_count p + total_width (widths fields)
  pub holds : packed_so_far exit after ≡ packed_so_far entry p ++ packed_bits fields

-- the four bytes of a word
abbrev pub word_bytes : ℕ → List ℕ
word_bytes word = word / 16_777_216 ∷ word / 65_536 % 256 ∷ word / 256 % 256 ∷ word % 256 ∷ []
