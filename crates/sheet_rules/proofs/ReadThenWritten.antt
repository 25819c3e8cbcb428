-- An accepted sheet, written again from the values that are read off it, has the same bytes: for every kind and figure, and sheets of
-- every length.
use Rattle.sheet_rules.specs.Sheet.{read_as}
use Rattle.std.specs.Prelude.{Ok}
use Rattle.std.specs.Prelude.{ℕ, zero, suc, ◌*◌, ◌≤◌, ◌<◌, Bool, true, false, cond, ◌&&◌, List, [], ◌∷◌, map, ◌≡◌, refl, T, leb, pos}
use Rattle.std.specs.Prelude.{length, get_or, take, drop}
use Rattle.vocabulary.specs.{sym, ap, ap₂, subst, ◌∙◌, le_of_suc-le-suc, not-suc-le-zero, arith, leb→le, lit≤, length-map, list-get_or_map}
use Rattle.vocabulary.specs.{ext_get_or}
use Rattle.whole.specs.Lists.{listed}
use Rattle.whole.proofs.{Computed.and_right, Lists.get_or_listed, Lists.get_d_any}
use Rattle.refusals.specs.Numbers.{numbered}
use Rattle.bits.specs.Bits.{Field, bits_of, bytes_of, field_at, total_width, packed_bits, read_fields}
use Rattle.bits.specs.Complement.{signed_of, twos_complement}
use Rattle.bits.proofs.{Bytes.AreBytes, Fields.field_at_lt, Packed.field_at_offset, Packed.written_back, Complement.twos_complement_signed_of}
use Rattle.figures.specs.{declared.Figure.Figure, Figure.description, Figure.angle_count}
use Rattle.figures.proofs.Naming.{named_exactly}
use Rattle.sheet_layout.specs.{declared.Kind.Kind, Kinds.number_of_kind, Kinds.carries_rounds, Head.kind_number_in, Head.code_in, Head.n_in}
use Rattle.sheet_layout.specs.Layout.{Item, the_kind, the_code, the_n, limit, tolerance, angle, angle_rounds, fixed_angle, log_sine, difference, log_side, width_of, limit_or_tolerance_item, layout, fixed_in, sine_entries_in, sides_in, bit_count, sheet_size, position_of, held}
use Rattle.sheet_layout.proofs.{Sizes.bits_within, Naming.kind_exactly, Naming.own_head}
use Rattle.sheet_rules.specs.{Judging.reading_of, Judging.writing_of, Judging.written_of}
use Rattle.sheet_rules.specs.Sheet.{Values, number_at, field_of, packed_sheet, values_read}
use Rattle.sheet_rules.proofs.Positions.{same_item, position_by_index, stands_once, none_among, counted, each_counted, narrow, kind_in_head, code_in_head, n_in_head}
use Rattle.sheet_rules.proofs.Accepted.{Accepted, accepted, writer_found, sheet_written, given_back, as_many_read}
use Rattle.sheet_rules.proofs.Filling.{no_filling_bit}

-- a value that is counted is the one of its number
counted_value : {A : Type 0} (count : ℕ) (g : ℕ → A) (other : A) (i : ℕ) → T (leb 1 i && leb i count)
    → numbered (listed count (λ j. g (suc j))) i other ≡ g i
counted_value count g other zero t = absurd t
counted_value count g other (suc j) t =
    get_or_listed count (λ i. g (suc i)) j other (leb→le (suc j) count (and_right (leb 1 (suc j)) (leb (suc j) count) t))

-- and so are the rounds that are counted, where the kind carries them
counted_rounds : (rounds : Bool) (count : ℕ) (g : ℕ → ℕ) (i : ℕ) → T (leb 1 i && leb i (cond rounds count 0))
    → numbered (listed count (λ j. cond rounds (g (suc j)) 1)) i 0 ≡ g i
counted_rounds true count g i t = counted_value count g 0 i t
counted_rounds false count g i t = absurd (none_among i t)

module _ (kind : Kind) (f : Figure) (s : List ℕ)
    (is-kind : kind_number_in s ≡ number_of_kind kind) (is-figure : (code_in s ≡ (description f).code) × (n_in s ≡ (description f).n)) where
  -- the number that stands for an item, of the values that are read, is what the sheet holds there
  number_held : (p : Item) → T (counted kind f p) → number_at kind f (values_read kind f s) p ≡ held (layout kind f) s p
  unfolding values_read held
  number_held the_kind t = sym (kind_in_head kind f s ∙ is-kind)
  number_held the_code t = sym (code_in_head kind f s ∙ is-figure.0)
  number_held the_n t = sym (n_in_head kind f s ∙ is-figure.1)
  number_held limit t = ap (held (layout kind f) s) (sym (same_item limit (limit_or_tolerance_item kind) t))
  number_held tolerance t = ap (held (layout kind f) s) (sym (same_item tolerance (limit_or_tolerance_item kind) t))
  number_held (angle i) t = counted_value (angle_count f) (λ i. held (layout kind f) s (angle i)) 0 i t
  number_held (angle_rounds i) t = counted_rounds (carries_rounds kind) (angle_count f) (λ i. held (layout kind f) s (angle_rounds i)) i t
  number_held (fixed_angle i) t = counted_value (fixed_in kind f) (λ i. held (layout kind f) s (fixed_angle i)) 0 i t
  number_held (log_sine i) t = counted_value (sine_entries_in kind f) (λ i. held (layout kind f) s (log_sine i)) 0 i t
  number_held (difference i) t =
      ap (twos_complement 15) (counted_value (sine_entries_in kind f) (λ i. signed_of 15 (held (layout kind f) s (difference i))) (pos 0) i t)
      ∙ twos_complement_signed_of 15 (lit≤ tt) (lit≤ tt) (held (layout kind f) s (difference i))
      (field_at_lt s (position_of (difference i) (layout kind f)) 15)
  number_held (log_side i) t = counted_value (sides_in kind f) (λ i. held (layout kind f) s (log_side i)) 0 i t

-- the width of a field that is read
width_read : (ws : List ℕ) (b : List Bool) (k : ℕ) (none : Field) → k < length ws → (get_or (read_fields ws b) k none).width ≡ get_or ws k 0
unfolding read_fields
width_read [] b k none h = absurd (not-suc-le-zero h)
width_read (w ∷ ws) b zero none h = refl
width_read (w ∷ ws) b (suc k) none h = width_read ws (drop w b) k none (le_of_suc-le-suc h)

length_read : (ws : List ℕ) (b : List Bool) → length (read_fields ws b) ≡ length ws
unfolding read_fields
length_read [] b = refl
length_read (w ∷ ws) b = ap suc (length_read ws (drop w b))

module _ (kind : Kind) (f : Figure) where
  -- the width at an index of the layout
  pub width_at : (k : ℕ) → k < length (layout kind f) → get_or (map width_of (layout kind f)) k 0 ≡ width_of (get_or (layout kind f) k the_kind)
  width_at k h =
      get_d_any (map width_of (layout kind f)) k 0 (width_of the_kind) (omega (arith, length-map (layout kind f) width_of))
      ∙ list-get_or_map width_of (layout kind f) k the_kind

  -- what is held as an item of the layout is the field at its index
  held_at : (s : List ℕ) (k : ℕ) (none : Field) → bit_count kind f ≤ 8 * length s → k < length (layout kind f)
      → held (layout kind f) s (get_or (layout kind f) k the_kind) ≡ (get_or (read_fields (map width_of (layout kind f)) (bits_of s)) k none).holds
  unfolding held bit_count
  held_at s k none fits h =
      let ws : List ℕ = map width_of (layout kind f) in
      let p : Item = get_or (layout kind f) k the_kind in
      ap₂ (field_at s) (position_by_index p (layout kind f) ∙ ap (λ (j : ℕ). total_width (take j ws)) (stands_once kind f k h)) (sym (width_at k h))
      ∙ field_at_offset s ws k none fits (omega (arith, length-map (layout kind f) width_of)) (subst (λ (w : ℕ). w ≤ 32) (sym (width_at k h)) (narrow p))

module _ (s lent : List ℕ) (kind : Kind) (f : Figure) (limit_or_tolerance : ℕ) (bytes : AreBytes s) (h : Accepted s lent kind f limit_or_tolerance) where
  fields_read : map (field_of kind f (values_read kind f s)) (layout kind f) ≡ read_fields (map width_of (layout kind f)) (bits_of s)
  fields_read =
      let items : List Item = layout kind f in
      let ws : List ℕ = map width_of items in
      let g : Item → Field = field_of kind f (values_read kind f s) in
      let counts : length (map g items) ≡ length items = length-map items g in
      let own = (kind_exactly (kind_number_in s) kind).0 h.kind_named in
      let names = (named_exactly (code_in s) (n_in s) f).0 h.figure_named_lem in
      let room : bit_count kind f ≤ 8 * length s = omega (arith, bits_within kind f, h.size) in
      ext_get_or (g the_kind) (map g items) (read_fields ws (bits_of s)) (counts ∙ sym (length-map items width_of) ∙ sym (length_read ws (bits_of s)))
      (λ k l.
      let within : k < length items = omega arith in
      let p : Item = get_or items k the_kind in
      list-get_or_map g items k the_kind
      ∙ ap₂ (λ (w n : ℕ). record { width = w; holds = n })
      (sym (width_read ws (bits_of s) k (g the_kind) (omega (arith, length-map items width_of)) ∙ width_at kind f k within))
      (number_held kind f s own names p (each_counted kind f k within) ∙ held_at kind f s k (g the_kind) room within))

  same_bytes : packed_sheet kind f (values_read kind f s) ≡ s
  unfolding packed_sheet sheet_size bit_count
  same_bytes =
      ap (λ (fs : List Field). bytes_of (packed_bits fs)) fields_read
      ∙ written_back s (map width_of (layout kind f)) bytes h.size ((no_filling_bit kind f s h.size).0 h.filling)

-- demand 2: "An accepted packed sheet, read and written again, has the same bits"
pub read_then_written : (s lent : List ℕ) (kind : Kind) (f : Figure) (limit_or_tolerance : ℕ) → AreBytes s
    → reading_of s lent ≡ read_as kind f limit_or_tolerance
    → packed_sheet kind f (values_read kind f s) ≡ s
read_then_written s lent kind f l bytes e = same_bytes s lent kind f l bytes (accepted s lent kind f l e)

-- what the writer answers to the values that are read off a sheet, and writes into any slice of its length
pub record WrittenAgain (kind : Kind) (f : Figure) (s : List ℕ) : Type 0 where
  pub accepts : writing_of (number_of_kind kind) (description f).code (description f).n (values_read kind f s) (length s) ≡ Ok tt
  pub writes : (before : List ℕ) → length before ≡ length s
      → written_of (number_of_kind kind) (description f).code (description f).n (values_read kind f s) before ≡ s

-- the writer accepts what the reader has accepted
pub read_then_accepted : (s lent : List ℕ) (kind : Kind) (f : Figure) (limit_or_tolerance : ℕ) → AreBytes s
    → reading_of s lent ≡ read_as kind f limit_or_tolerance
    → WrittenAgain kind f s
read_then_accepted s lent kind f l bytes e =
    let h : Accepted s lent kind f l = accepted s lent kind f l e in
    let code : ℕ = (description f).code in
    let n : ℕ = (description f).n in
    let v : Values = values_read kind f s in
    let passes : writing_of (number_of_kind kind) code n v (length s) ≡ Ok tt =
    writer_found (number_of_kind kind) code n v (length s) kind f (own_head kind f)
    ∙ given_back kind f v (length s) (record { lengths = as_many_read kind f s; sized = h.size; values = h.values }) in
    record {
      accepts = passes;
      writes = λ before same.
          sheet_written (number_of_kind kind) code n v before kind f (own_head kind f) (ap (writing_of (number_of_kind kind) code n v) same ∙ passes)
          ∙ same_bytes s lent kind f l bytes h;
    }
