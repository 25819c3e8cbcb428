-- A sheet that the writer has accepted reads back as the same kind, figure, L or e and values: for every kind and figure.
use Rattle.sheet_layout.specs.Head.{headed}
use Rattle.sheet_rules.specs.Sheet.{Reading, read_as}
use Rattle.std.specs.Prelude.{Ok}
use Rattle.std.specs.Prelude.{ℕ, zero, suc, ◌≤◌, ◌<◌, ◌^◌, Bool, true, false, cond, ◌&&◌, List, [], ◌∷◌, map, ◌≡◌, refl, T, leb, ltb, pos}
use Rattle.std.specs.Prelude.{length, get_or, take, replicate}
use Rattle.vocabulary.specs.{zero-le, suc-le-suc, sym, ap, ap₂, subst, ◌∙◌, lt_of_le_of_lt, arith, leb→le, ltb→lt, lit<, lit≤, length-map}
use Rattle.vocabulary.specs.{list-get_or_map}
use Rattle.whole.specs.Lists.{listed}
use Rattle.whole.proofs.{Computed.and_right, Lists.listed_ext, Lists.listed_get_or}
use Rattle.refusals.specs.{Numbers.numbered, Order.NoneHolds}
use Rattle.refusals.specs.Ranges.{most_limit, most_tolerance, least_rounds, most_rounds}
use Rattle.bits.specs.Bits.{Field, bytes_of, byte_count, filling_width, field_at, total_width, widths, packed_bits, AllFit}
use Rattle.bits.specs.Complement.{signed_of}
use Rattle.bits.proofs.{Bytes.bits_of_bytes_of, Bytes.length_bytes_of, Packed.length_packed_bits, Packed.field_at_packed, Packed.filling_zero}
use Rattle.bits.proofs.Complement.{signed_of_twos_complement, twos_complement_lt}
use Rattle.figures.specs.{declared.Figure.Figure, Figure.description, Figure.angle_count}
use Rattle.figures.proofs.{Figures.each_figure, Naming.named_exactly}
use Rattle.sheet_layout.specs.{declared.Kind.Kind, declared.Pass.Pass, Kinds.number_of_kind, Kinds.pass_of, Kinds.carries_rounds, Kinds.of_pass}
use Rattle.sheet_layout.specs.Layout.{Item, the_kind, the_code, the_n, limit, tolerance, angle, angle_rounds, fixed_angle, log_sine, difference, log_side, width_of, limit_or_tolerance_item, layout, fixed_in, sine_entries_in, sides_in, bit_count, sheet_size, position_of, held}
use Rattle.sheet_layout.specs.{Head.kind_number_in, Head.code_in, Head.n_in, Head.head_of}
use Rattle.sheet_layout.proofs.{EachKind.each_kind, EachKind.each, Naming.kind_exactly}
use Rattle.sheet_rules.specs.Sheet.{Values, number_at, field_of, packed_sheet, values_read}
use Rattle.sheet_rules.specs.Judging.{most_rounds_of, value_rows, own_lengths, lengths_given, reading_of, after_reading, writing_of, written_of}
use Rattle.sheet_rules.specs.Promises.{read_answer, read_left}
use Rattle.sheet_rules.specs.Lent.{Slices, slices_of, lengths_lent}
use Rattle.sheet_rules.proofs.Positions.{same_item, index_of, position_by_index, item_at_index, none_among, counted, each_counted, narrow, kind_stands, code_stands, n_stands, limit_stands, angle_stands, rounds_stand, fixed_stands, log_sine_stands, difference_stands, log_side_stands, kind_in_head, code_in_head, n_in_head}
use Rattle.sheet_rules.proofs.Accepted.{Accepted, AsMany, own_lengths_lem, accepted_back, writer_accepted, sheet_written}
use Rattle.sheet_rules.proofs.{Filling.no_filling_bit, InRange.InRange, InRange.in_range, InRange.difference_fits}
use Rattle.sheet_rules.proofs.{Layouts.fields_widths, Layouts.fields_bits, ReadThenWritten.width_at}

-- ---- every number fits its field

code_small : (f : Figure) → (description f).code < 16
code_small f = ltb→lt (description f).code 16 (each_figure (λ g. ltb (description g).code 16) tt f)

n_small : (f : Figure) → (description f).n < 16
n_small f = ltb→lt (description f).n 16 (each_figure (λ g. ltb (description g).n 16) tt f)

kind_small : (kind : Kind) → number_of_kind kind < 16
kind_small kind = ltb→lt (number_of_kind kind) 16 (each_kind (λ k. ltb (number_of_kind k) 16) tt kind)

-- a value by its number, where every value is at most `most`
numbered_fits : (values : List ℕ) (most w count i : ℕ) → most < 2 ^ w → length values ≡ count → ((j : ℕ) → j < length values → get_or values j 0 ≤ most)
    → T (leb 1 i && leb i count) → numbered values i 0 < 2 ^ w
numbered_fits values most w count zero m e h t = absurd t
numbered_fits values most w count (suc j) m e h t =
    lt_of_le_of_lt (h j (omega (arith, leb→le (suc j) count (and_right (leb 1 (suc j)) (leb (suc j) count) t)))) m

-- no angle has more rounds than fit 8 bits, and there are no more in a sheet than angles
few_rounds : (kind : Kind) → most_rounds_of kind ≤ 255
few_rounds kind = leb→le (most_rounds_of kind) 255 (each_kind (λ k. leb (most_rounds_of k) 255) tt kind)

within_angles : (rounds : Bool) (count i : ℕ) → T (leb 1 i && leb i (cond rounds count 0)) → T (leb 1 i && leb i count)
within_angles true count i t = t
within_angles false count i t = absurd (none_among i t)

module _ (kind : Kind) (f : Figure) (v : Values) (lengths : AsMany kind f v) (range : InRange kind v) where
  limit_fits : (p : Item) → p ≡ limit_or_tolerance_item kind → v.limit_or_tolerance < 2 ^ width_of p
  limit_fits p e = subst (λ (q : Item). v.limit_or_tolerance < 2 ^ width_of q) (sym e) (go (pass_of kind) range.limit_or_tolerance)
    where
      go : (pass : Pass) → v.limit_or_tolerance ≤ of_pass pass most_limit most_tolerance → v.limit_or_tolerance < 2 ^ width_of (of_pass pass limit tolerance)
      go Pass.First h = omega arith
      go Pass.Second h = omega arith

  number_fits : (p : Item) → T (counted kind f p) → number_at kind f v p < 2 ^ width_of p
  number_fits the_kind t = kind_small kind
  number_fits the_code t = code_small f
  number_fits the_n t = n_small f
  number_fits limit t = limit_fits limit (same_item limit (limit_or_tolerance_item kind) t)
  number_fits tolerance t = limit_fits tolerance (same_item tolerance (limit_or_tolerance_item kind) t)
  number_fits (angle i) t = numbered_fits v.angles 6479999 23 (angle_count f) i (lit< tt) lengths.angles (λ j h. (range.angles j h).1) t
  number_fits (angle_rounds i) t =
      numbered_fits v.rounds 255 8 (angle_count f) i (lit< tt) lengths.rounds (λ j h. omega (arith, range.rounds j h, few_rounds kind))
      (within_angles (carries_rounds kind) (angle_count f) i t)
  number_fits (fixed_angle i) t = numbered_fits v.fixed 6479999 23 (fixed_in kind f) i (lit< tt) lengths.fixed (λ j h. (range.fixed j h).1) t
  number_fits (log_sine i) t = numbered_fits v.log_sines 100000000 27 (sine_entries_in kind f) i (lit< tt) lengths.log_sines (λ j h. (range.log_sines j h).1) t
  number_fits (difference i) t = twos_complement_lt 15 (numbered v.differences i (pos 0))
  number_fits (log_side i) t = numbered_fits v.log_sides 100000000 27 (sides_in kind f) i (lit< tt) lengths.log_sides (λ j h. (range.log_sides j h).1) t

  all_fit : (ps : List Item) → ((k : ℕ) → k < length ps → T (counted kind f (get_or ps k the_kind))) → AllFit (map (field_of kind f v) ps)
  unfolding AllFit
  all_fit [] h = tt
  all_fit (p ∷ ps) h = (number_fits p (h 0 (suc-le-suc zero-le)), all_fit ps (λ k l. h (suc k) (suc-le-suc l)))

  -- ---- what is held as each item

  pub held_written : (p : Item) → index_of p (layout kind f) < length (layout kind f) → held (layout kind f) (packed_sheet kind f v) p ≡ number_at kind f v p
  unfolding held packed_sheet
  held_written p h =
      let items : List Item = layout kind f in
      let g : Item → Field = field_of kind f v in
      let fs : List Field = map g items in
      let k : ℕ = index_of p items in
      let s : List ℕ = bytes_of (packed_bits fs) in
      let there : get_or items k the_kind ≡ p = item_at_index p items the_kind h in
      let width : get_or (widths fs) k 0 ≡ width_of p =
      ap (λ (ws : List ℕ). get_or ws k 0) (fields_widths kind f v items) ∙ width_at kind f k h ∙ ap width_of there in
      let position : total_width (take k (widths fs)) ≡ position_of p items =
      ap (λ (ws : List ℕ). total_width (take k ws)) (fields_widths kind f v items) ∙ sym (position_by_index p items) in
      ap₂ (field_at s) (sym position) (sym width)
      ∙ field_at_packed s fs (replicate (filling_width (length (packed_bits fs))) false) k (g the_kind) (bits_of_bytes_of (packed_bits fs))
      (all_fit items (each_counted kind f)) (omega (arith, length-map items g)) (subst (λ (w : ℕ). w ≤ 32) (sym width) (narrow p))
      ∙ ap (λ (q : Field). q.holds) (list-get_or_map g items k the_kind ∙ ap g there)

-- ---- the values are read back

limit_number : (kind : Kind) (f : Figure) (v : Values) → number_at kind f v (limit_or_tolerance_item kind) ≡ v.limit_or_tolerance
limit_number kind f v = go (pass_of kind)
  where
    go : (pass : Pass) → number_at kind f v (of_pass pass limit tolerance) ≡ v.limit_or_tolerance
    go Pass.First = refl
    go Pass.Second = refl

listed_back : {A : Type 0} (count : ℕ) (values : List A) (g : ℕ → A) (d : A) → length values ≡ count → ((i : ℕ) → i < count → g i ≡ get_or values i d) → listed count g ≡ values
listed_back count values g d e h =
    listed_ext count g (λ i. get_or values i d) h ∙ ap (λ (n : ℕ). listed n (λ i. get_or values i d)) (sym e) ∙ listed_get_or d values

-- of an angle's rounds, what the sheet holds or one
one_read : (rounds : Bool) (count : ℕ) {held given : ℕ} (i : ℕ) → i < count → (i < cond rounds count 0 → held ≡ given)
    → (least_rounds ≤ given) × (given ≤ cond rounds most_rounds 1) → cond rounds held 1 ≡ given
one_read true count i h back range = back h
one_read false count i h back range = omega (arith, range.0, range.1)

module _ (kind : Kind) (f : Figure) (v : Values) (lengths : AsMany kind f v) (range : InRange kind v) where
  abbrev sheet : List ℕ
  sheet = packed_sheet kind f v

  abbrev at : Item → ℕ
  at p = held (layout kind f) sheet p

  limit_back : at (limit_or_tolerance_item kind) ≡ v.limit_or_tolerance
  limit_back = held_written kind f v lengths range (limit_or_tolerance_item kind) (limit_stands kind f) ∙ limit_number kind f v

  angles_back : listed (angle_count f) (λ i. at (angle (suc i))) ≡ v.angles
  angles_back =
      listed_back (angle_count f) v.angles (λ i. at (angle (suc i))) 0 lengths.angles
      (λ i h. held_written kind f v lengths range (angle (suc i)) (angle_stands kind f i h))

  rounds_back : listed (angle_count f) (λ i. cond (carries_rounds kind) (at (angle_rounds (suc i))) 1) ≡ v.rounds
  rounds_back =
      listed_back (angle_count f) v.rounds (λ i. cond (carries_rounds kind) (at (angle_rounds (suc i))) 1) 0 lengths.rounds
      (λ i h.
      one_read (carries_rounds kind) (angle_count f) i h
      (λ l. held_written kind f v lengths range (angle_rounds (suc i)) (rounds_stand kind f i l))
      (range.rounds i (omega (arith, lengths.rounds))))

  fixed_back : listed (fixed_in kind f) (λ i. at (fixed_angle (suc i))) ≡ v.fixed
  fixed_back =
      listed_back (fixed_in kind f) v.fixed (λ i. at (fixed_angle (suc i))) 0 lengths.fixed
      (λ i h. held_written kind f v lengths range (fixed_angle (suc i)) (fixed_stands kind f i h))

  log_sines_back : listed (sine_entries_in kind f) (λ i. at (log_sine (suc i))) ≡ v.log_sines
  log_sines_back =
      listed_back (sine_entries_in kind f) v.log_sines (λ i. at (log_sine (suc i))) 0 lengths.log_sines
      (λ i h. held_written kind f v lengths range (log_sine (suc i)) (log_sine_stands kind f i h))

  differences_back : listed (sine_entries_in kind f) (λ i. signed_of 15 (at (difference (suc i)))) ≡ v.differences
  differences_back =
      listed_back (sine_entries_in kind f) v.differences (λ i. signed_of 15 (at (difference (suc i)))) (pos 0) lengths.differences
      (λ i h.
      let within = range.differences i (omega (arith, lengths.log_sines)) in
      ap (signed_of 15) (held_written kind f v lengths range (difference (suc i)) (difference_stands kind f i h))
      ∙ signed_of_twos_complement 15 (lit≤ tt) (lit≤ tt) (get_or v.differences i (pos 0)) (difference_fits (get_or v.differences i (pos 0)) within.0 within.1))

  log_sides_back : listed (sides_in kind f) (λ i. at (log_side (suc i))) ≡ v.log_sides
  log_sides_back =
      listed_back (sides_in kind f) v.log_sides (λ i. at (log_side (suc i))) 0 lengths.log_sides
      (λ i h. held_written kind f v lengths range (log_side (suc i)) (log_side_stands kind f i h))

  pub values_back : values_read kind f sheet ≡ v
  unfolding values_read
  values_back = rw (limit_back, angles_back, rounds_back, fixed_back, log_sines_back, differences_back, log_sides_back)

  -- ---- the sheet is accepted

  sized : length sheet ≡ sheet_size kind f
  unfolding packed_sheet sheet_size
  sized =
      let fs : List Field = map (field_of kind f v) (layout kind f) in
      length_bytes_of (packed_bits fs) ∙ ap byte_count (length_packed_bits fs ∙ fields_bits kind f v)

  filled : field_at sheet (bit_count kind f) (filling_width (bit_count kind f)) ≡ 0
  unfolding packed_sheet
  filled =
      let fs : List Field = map (field_of kind f v) (layout kind f) in
      ap (λ (n : ℕ). field_at (bytes_of (packed_bits fs)) n (filling_width n)) (sym (fields_bits kind f v)) ∙ filling_zero fs

  written_accepted : NoneHolds (value_rows kind v) → Accepted sheet (own_lengths kind f) kind f v.limit_or_tolerance
  written_accepted none = record {
    kind_named = (kind_exactly (kind_number_in sheet) kind).1 (sym (kind_in_head kind f sheet) ∙ held_written kind f v lengths range the_kind (kind_stands kind f));
    figure_named_lem = (named_exactly (code_in sheet) (n_in sheet) f).1
        (sym (code_in_head kind f sheet) ∙ held_written kind f v lengths range the_code (code_stands kind f), sym (n_in_head kind f sheet) ∙ held_written kind f v lengths range the_n (n_stands kind f));
    size = sized;
    lengths = refl;
    filling = (no_filling_bit kind f sheet sized).1 filled;
    values = subst (λ (w : Values). NoneHolds (value_rows kind w)) (sym values_back) none;
    as_packed = ap (λ (w : Values). w.limit_or_tolerance) values_back;
  }

-- ---- a written sheet

long_enough : (kind : Kind) (f : Figure) → 2 ≤ sheet_size kind f
unfolding sheet_size byte_count bit_count layout total_width
long_enough kind f = leb→le 2 (sheet_size kind f) (each (λ k g. leb 2 (sheet_size k g)) tt kind f)

-- what the reader answers to a sheet, and leaves in the slices that are lent to it: the kind and the figure that the numbers name, L or
-- e, and the values
pub record ReadsBack (kind code n : ℕ) (v : Values) (sheet : List ℕ) (lent : Slices) : Type 0 where
  pub kind_read : Kind
  pub figure_read : Figure
  pub named : head_of kind code n ≡ headed kind_read figure_read
  pub answers : read_answer sheet lent ≡ read_as kind_read figure_read v.limit_or_tolerance
  pub leaves : read_left sheet lent ≡ slices_of v

-- demand 2: "a written sheet reads back as the same values"
pub written_then_read : (kind code n : ℕ) (v : Values) (before : List ℕ) → writing_of kind code n v (length before) ≡ Ok tt
    → (lent : Slices) → lengths_lent lent ≡ lengths_given v
    → ReadsBack kind code n v (written_of kind code n v before) lent
written_then_read kind code n v before e lent same =
    let given = writer_accepted kind code n v (length before) e in
    let k : Kind = given.kind_given in
    let f : Figure = given.figure_given in
    let range : InRange k v = in_range k v given.given.values in
    let many : AsMany k f v = given.given.lengths in
    let written : written_of kind code n v before ≡ packed_sheet k f v = sheet_written kind code n v before k f given.names e in
    let is : Accepted (packed_sheet k f v) (own_lengths k f) k f v.limit_or_tolerance = written_accepted k f v many range given.given.values in
    let answered : read_answer (packed_sheet k f v) lent ≡ read_as k f v.limit_or_tolerance =
    ap (reading_of (packed_sheet k f v)) (same ∙ own_lengths_lem k f v many)
    ∙ accepted_back (packed_sheet k f v) (own_lengths k f) k f v.limit_or_tolerance (omega (arith, long_enough k f, is.size)) is in
    record {
      kind_read = k;
      figure_read = f;
      named = given.names;
      answers = ap (λ (sheet : List ℕ). read_answer sheet lent) written ∙ answered;
      leaves =
          ap (λ (sheet : List ℕ). read_left sheet lent) written
          ∙ ap (λ (reading : Reading). after_reading reading (λ x g. slices_of (values_read x g (packed_sheet k f v))) lent) answered
          ∙ ap slices_of (values_back k f v many range);
    }
