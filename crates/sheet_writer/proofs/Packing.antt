-- Rows of fields packed one after the other, as the loops of the writer do it. Assumes nothing.
use Rattle.std.specs.Prelude.{ℕ, zero, suc, ◌+◌, ◌*◌, ◌≤◌, ◌<◌, Bool, true, false, List, [], ◌∷◌, ◌≡◌, refl, ℤ, length}
use Rattle.vocabulary.specs.{sym, ap, ap₂, subst, ◌∙◌, add-zero, mul-zero, mul-suc, mul-le-mul_left, add-one, arith}
use Rattle.refusals.specs.Numbers.{numbered}
use Rattle.bits.specs.Bits.{Field, widths, total_width}
use Rattle.bits.proofs.Packed.{total_width_append, widths_append}
use Rattle.figures.specs.Rows.{each_of}
use Rattle.sheet_layout.specs.Layout.{rounds_bits}
use Rattle.sheet_writer.specs.{declared.packer.Packer.Packer, Packer.packed_count, Packer.WellHeld, Packer.HasRoom, Packer.Packs}
use Rattle.sheet_writer.specs.Parts.{field_from, angle_fields, row_of}
use Rattle.sheet_writer.proofs.PackerLaws.{packs_none, packs_then, room_after}

-- rows of one width
pub rows_width : (row : ℕ → List Field) (w : ℕ) → ((i : ℕ) → total_width (widths (row i)) ≡ w) → (n : ℕ) → total_width (widths (each_of n row)) ≡ w * n
unfolding total_width widths
rows_width row w each zero = sym (mul-zero w)
rows_width row w each (suc n) =
    ap total_width (widths_append (each_of n row) (row (suc n))) ∙ total_width_append (widths (each_of n row)) (widths (row (suc n)))
    ∙ ap₂ (λ (a b : ℕ). a + b) (rows_width row w each n) (each (suc n)) ∙ sym (mul-suc w n)

-- the one field of a value in a column has the column's width
pub one_width : (width : ℕ) (values : List ℕ) (i : ℕ) → total_width (widths (field_from width (numbered values i 0) ∷ [])) ≡ width
unfolding total_width widths
one_width width values i = add-zero width

-- and so have an angle and its rounds, and with its log-sine and its difference
pub angle_width : (carried : Bool) (angle rounds : ℕ) → total_width (widths (angle_fields carried angle rounds)) ≡ 23 + rounds_bits carried
unfolding total_width widths
angle_width true angle rounds = refl
angle_width false angle rounds = refl

pub row_width : (carried : Bool) (angle rounds log_sine_lem : ℕ) (difference : ℤ)
    → total_width (widths (row_of carried angle rounds log_sine_lem difference)) ≡ 65 + rounds_bits carried
unfolding total_width widths
row_width true angle rounds log_sine_lem difference = refl
row_width false angle rounds log_sine_lem difference = refl

-- the invariant of a loop that packs rows: so many are packed
pub record PackedRows (s : List ℕ) (p : Packer) (row : ℕ → List Field) (count done : ℕ) (sheet : List ℕ) (packer : Packer) : Type 0 where
  pub few : done ≤ count
  pub long : length sheet ≡ length s
  pub rows : Packs s p (each_of done row) sheet packer

pub rows_none : (s : List ℕ) (p : Packer) (row : ℕ → List Field) (count : ℕ) → WellHeld p → PackedRows s p row count 0 s p
rows_none s p row count well = record { few = omega arith; long = refl; rows = packs_none s p well }

module _ (s : List ℕ) (p : Packer) (row : ℕ → List Field) (count : ℕ) {done : ℕ} {sheet : List ℕ} {packer : Packer}
    (h : PackedRows s p row count done sheet packer) where
  pub rows_more : done < count → {next : List ℕ} {after : Packer} → length next ≡ length sheet → Packs sheet packer (row (suc done)) next after
      → PackedRows s p row count (done + 1) next after
  rows_more l {next} {after} same packs = record {
    few = omega arith;
    long = same ∙ h.long;
    rows = subst (λ (n : ℕ). Packs s p (each_of n row) next after) (sym (add-one done))
        (packs_then s p (each_of done row) (row (suc done)) h.rows packs);
  }

  -- the next row has room where all have
  pub rows_room : (w : ℕ) → ((i : ℕ) → total_width (widths (row i)) ≡ w) → HasRoom s p (w * count) → done < count → HasRoom sheet packer w
  rows_room w each room l =
      let more : done + 1 ≤ count = omega arith in
      let next : w * (done + 1) ≡ w * done + w = ap (λ (k : ℕ). w * k) (add-one done) ∙ mul-suc w done in
      let packed : packed_count packer ≡ packed_count p + w * done =
      h.rows.counted ∙ ap (λ (n : ℕ). packed_count p + n) (rows_width row w each done) in
      record { well = h.rows.well; enough = omega (arith, packed, next, room.enough, h.long, mul-le-mul_left w more) }

  pub rows_all : count ≤ done → Packs s p (each_of count row) sheet packer
  rows_all l =
      let all : done ≡ count = omega (arith, h.few) in
      subst (λ (n : ℕ). Packs s p (each_of n row) sheet packer) all h.rows

-- room for what follows rows of one width
pub room_after_rows : {a b : List ℕ} {p q : Packer} (row : ℕ → List Field) (w : ℕ) → ((i : ℕ) → total_width (widths (row i)) ≡ w) → (count more : ℕ)
    → Packs a p (each_of count row) b q → length b ≡ length a → HasRoom a p (w * count + more) → HasRoom b q more
room_after_rows row w each count more packs same room =
    room_after (each_of count row) more packs same (record { well = room.well; enough = omega (arith, room.enough, rows_width row w each count) })
