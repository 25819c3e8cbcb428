-- The columns of the reader are those of the layout, by tests that antt computes over all kinds and figures, and hold the values of the
-- sheet. Assumes nothing.
use Rattle.std.specs.Prelude.{ℕ, suc, ◌+◌, ◌*◌, ◌<◌, Bool, true, false, cond, ◌&&◌, List, ◌≡◌, T, eqb, ℤ, length, take, get_or}
use Rattle.std.specs.Prelude.{replicate, ◌%◌, ◌^◌}
use Rattle.vocabulary.specs.{sym, ap, ap₂, subst, ◌∙◌, arith, eqb→eq, length-replicate, get_or-replicate, length-take-le}
use Rattle.whole.specs.Lists.{listed, every, every_below}
use Rattle.whole.proofs.{Computed.and_left, Computed.and_right, Computed.every_below_lem, Lists.listed_ext}
use Rattle.bits.specs.{Bits.field_at, Complement.signed_of}
use Rattle.figures.specs.{declared.Figure.Figure, Figure.all_figures, Figure.angle_count}
use Rattle.bits.proofs.Fields.{field_at_lt}
use Rattle.figures.proofs.Figures.{angle_bound}
use Rattle.sheet_layout.specs.{declared.Kind.Kind, Kinds.all_kinds, Kinds.pass_of, Kinds.carries_rounds}
use Rattle.sheet_layout.specs.Layout.{Item, angle, angle_rounds, fixed_angle, log_sine, difference, log_side, width_of, layout, limit_or_tolerance_item, rounds_in, fixed_in, sine_entries_in, sides_in, sort, number_of_item, same, position_of, held}
use Rattle.sheet_layout.proofs.{EachKind.each}
use Rattle.sheet_rules.specs.Sheet.{values_read}
use Rattle.sheet_reader.specs.declared.columns.Column.{Column}
use Rattle.sheet_reader.specs.Columns.{angle_column, rounds_column, fixed_column, log_sine_column, difference_column, log_side_column, values_held, column_values, signed_column_values}
use Rattle.sheet_reader.proofs.Taking.{first_values_lem}

-- ---- items in columns

-- an item that is counted stands where its column says
pub record InColumn (kind : Kind) (f : Figure) (p : Item) (c : Column) (i : ℕ) : Type 0 where
  pub position : position_of p (layout kind f) ≡ c.start + c.step * i
  pub width : width_of p ≡ c.width

module _ (item : ℕ → Item) (count : Kind → Figure → ℕ) (column : Kind → Figure → Column) where
  is_in_column : Kind → Figure → ℕ → Bool
  is_in_column kind f i =
      eqb (position_of (item (suc i)) (layout kind f)) ((column kind f).start + (column kind f).step * i)
      && eqb (width_of (item (suc i))) (column kind f).width

  is_column : Kind → Figure → Bool
  is_column kind f = every_below (count kind f) (is_in_column kind f)

  in_column : T (every (λ kind. every (is_column kind) all_figures) all_kinds)
      → (kind : Kind) (f : Figure) (i : ℕ) → i < count kind f → InColumn kind f (item (suc i)) (column kind f) i
  unfolding is_column is_in_column
  in_column t kind f i h =
      let p : Item = item (suc i) in
      let first : Bool = eqb (position_of p (layout kind f)) ((column kind f).start + (column kind f).step * i) in
      let second : Bool = eqb (width_of p) (column kind f).width in
      let all : T (first && second) = every_below_lem (count kind f) (is_in_column kind f) (each is_column t kind f) i h in
      record {
        position = eqb→eq (position_of p (layout kind f)) ((column kind f).start + (column kind f).step * i) (and_left first second all);
        width = eqb→eq (width_of p) (column kind f).width (and_right first second all);
      }

pub angle_in_column : (kind : Kind) (f : Figure) (i : ℕ) → i < angle_count f → InColumn kind f (angle (suc i)) (angle_column (pass_of kind) (carries_rounds kind) f) i
unfolding layout position_of same sort number_of_item is_column is_in_column
angle_in_column = in_column angle (λ kind f. angle_count f) (λ kind f. angle_column (pass_of kind) (carries_rounds kind) f) tt

pub rounds_in_column : (kind : Kind) (f : Figure) (i : ℕ) → i < rounds_in kind f → InColumn kind f (angle_rounds (suc i)) (rounds_column (pass_of kind) (carries_rounds kind) f) i
unfolding layout position_of same sort number_of_item is_column is_in_column
rounds_in_column = in_column angle_rounds rounds_in (λ kind f. rounds_column (pass_of kind) (carries_rounds kind) f) tt

pub fixed_in_column : (kind : Kind) (f : Figure) (i : ℕ) → i < fixed_in kind f → InColumn kind f (fixed_angle (suc i)) (fixed_column (carries_rounds kind) f) i
unfolding layout position_of same sort number_of_item is_column is_in_column
fixed_in_column = in_column fixed_angle fixed_in (λ kind f. fixed_column (carries_rounds kind) f) tt

pub log_sine_in_column : (kind : Kind) (f : Figure) (i : ℕ) → i < sine_entries_in kind f → InColumn kind f (log_sine (suc i)) (log_sine_column (carries_rounds kind) f) i
unfolding layout position_of same sort number_of_item is_column is_in_column
log_sine_in_column = in_column log_sine sine_entries_in (λ kind f. log_sine_column (carries_rounds kind) f) tt

pub difference_in_column : (kind : Kind) (f : Figure) (i : ℕ) → i < sine_entries_in kind f → InColumn kind f (difference (suc i)) (difference_column (carries_rounds kind) f) i
unfolding layout position_of same sort number_of_item is_column is_in_column
difference_in_column = in_column difference sine_entries_in (λ kind f. difference_column (carries_rounds kind) f) tt

pub log_side_in_column : (kind : Kind) (f : Figure) (i : ℕ) → i < sides_in kind f → InColumn kind f (log_side (suc i)) log_side_column i
unfolding layout position_of same sort number_of_item is_column is_in_column
log_side_in_column = in_column log_side sides_in (λ kind f. log_side_column) tt

-- what is held as an item of a column
held_in_column : (kind : Kind) (f : Figure) (s : List ℕ) (p : Item) (c : Column) (i : ℕ) → InColumn kind f p c i
    → held (layout kind f) s p ≡ field_at s (c.start + c.step * i) c.width
unfolding held
held_in_column kind f s p c i h = ap₂ (field_at s) h.position h.width

-- the items of a column, read in their order
column_read : (kind : Kind) (f : Figure) (s : List ℕ) (item : ℕ → Item) (c : Column) (count : ℕ) → ((i : ℕ) → i < count → InColumn kind f (item (suc i)) c i)
    → listed count (λ i. held (layout kind f) s (item (suc i))) ≡ column_values s c count
unfolding values_held
column_read kind f s item c count stands =
    listed_ext count (λ i. held (layout kind f) s (item (suc i))) (λ i. field_at s (c.start + c.step * i) c.width)
    (λ i h. held_in_column kind f s (item (suc i)) c i (stands i h))

module _ (kind : Kind) (f : Figure) (s : List ℕ) where
  pub angles_read : (values_read kind f s).angles ≡ column_values s (angle_column (pass_of kind) (carries_rounds kind) f) (angle_count f)
  unfolding values_read
  angles_read = column_read kind f s angle (angle_column (pass_of kind) (carries_rounds kind) f) (angle_count f) (angle_in_column kind f)

  -- the rounds where the kind carries them, and one for each angle where it does not
  pub rounds_read : carries_rounds kind ≡ true → (values_read kind f s).rounds ≡ column_values s (rounds_column (pass_of kind) (carries_rounds kind) f) (angle_count f)
  unfolding values_read
  rounds_read e =
      ap (λ (rounds : Bool). listed (angle_count f) (λ i. cond rounds (held (layout kind f) s (angle_rounds (suc i))) 1)) e
      ∙ column_read kind f s angle_rounds (rounds_column (pass_of kind) (carries_rounds kind) f) (angle_count f)
      (λ i h. rounds_in_column kind f i (subst (λ (rounds : Bool). i < cond rounds (angle_count f) 0) (sym e) h))

  pub ones_read : carries_rounds kind ≡ false → take (angle_count f) (replicate 24 1) ≡ (values_read kind f s).rounds
  unfolding values_read
  ones_read e =
      sym (first_values_lem (angle_count f) (replicate 24 1) 1 (omega (arith, length-replicate {A = ℕ} 24 1, angle_bound f)))
      ∙ listed_ext (angle_count f) (λ i. get_or (replicate 24 1) i 1) (λ i. 1) (λ i h. get_or-replicate 24 i 1 1 (omega (arith, angle_bound f)))
      ∙ sym (ap (λ (rounds : Bool). listed (angle_count f) (λ i. cond rounds (held (layout kind f) s (angle_rounds (suc i))) 1)) e)

  pub fixed_read : (values_read kind f s).fixed ≡ column_values s (fixed_column (carries_rounds kind) f) (fixed_in kind f)
  unfolding values_read
  fixed_read = column_read kind f s fixed_angle (fixed_column (carries_rounds kind) f) (fixed_in kind f) (fixed_in_column kind f)

  pub log_sines_read : (values_read kind f s).log_sines ≡ column_values s (log_sine_column (carries_rounds kind) f) (sine_entries_in kind f)
  unfolding values_read
  log_sines_read = column_read kind f s log_sine (log_sine_column (carries_rounds kind) f) (sine_entries_in kind f) (log_sine_in_column kind f)

  pub differences_read : (values_read kind f s).differences ≡ signed_column_values s (difference_column (carries_rounds kind) f) (sine_entries_in kind f)
  unfolding values_read values_held
  differences_read =
      listed_ext (sine_entries_in kind f) (λ i. signed_of 15 (held (layout kind f) s (difference (suc i))))
      (λ i. signed_of 15 (field_at s ((difference_column (carries_rounds kind) f).start + (difference_column (carries_rounds kind) f).step * i) (difference_column (carries_rounds kind) f).width))
      (λ i h. ap (signed_of 15) (held_in_column kind f s (difference (suc i)) (difference_column (carries_rounds kind) f) i (difference_in_column kind f i h)))

  pub log_sides_read : (values_read kind f s).log_sides ≡ column_values s log_side_column (sides_in kind f)
  unfolding values_read
  log_sides_read = column_read kind f s log_side log_side_column (sides_in kind f) (log_side_in_column kind f)

-- L or e stands after the head
pub limit_or_tolerance_read : (kind : Kind) (f : Figure) (s : List ℕ) → (values_read kind f s).limit_or_tolerance ≡ field_at s 12 (width_of (limit_or_tolerance_item kind))
unfolding values_read held position_of layout same sort number_of_item
limit_or_tolerance_read kind f s =
    ap (λ (at : ℕ). field_at s at (width_of (limit_or_tolerance_item kind)))
    (eqb→eq (position_of (limit_or_tolerance_item kind) (layout kind f)) 12
    (each (λ k g. eqb (position_of (limit_or_tolerance_item k) (layout k g)) 12) tt kind f))

-- ---- columns of a kind and a figure

-- as many ones as angles
pub ones_many : (f : Figure) {ones : List ℕ} → ones ≡ take (angle_count f) (replicate 24 1) → length ones ≡ angle_count f
ones_many f e = ap length e ∙ length-take-le (angle_count f) (replicate 24 1) (omega (arith, length-replicate {A = ℕ} 24 1, angle_bound f))

-- a byte's bits hold a byte
pub bytes_held : (s : List ℕ) (c : Column) (count : ℕ) → c.width ≡ 8 → values_held (λ width field. field % 256) s c count ≡ column_values s c count
unfolding values_held
bytes_held s c count wide =
    listed_ext count (λ i. field_at s (c.start + c.step * i) c.width % 256) (λ i. field_at s (c.start + c.step * i) c.width)
    (λ i h. byte (c.start + c.step * i))
  where
    byte : (at : ℕ) → field_at s at c.width % 256 ≡ field_at s at c.width
    byte at = let least : field_at s at c.width < 2 ^ 8 = subst (λ (w : ℕ). field_at s at c.width < 2 ^ w) wide (field_at_lt s at c.width) in omega arith

-- rounds are a byte wide
pub rounds_wide : (kind : Kind) (f : Figure) {c : Column} → c ≡ rounds_column (pass_of kind) (carries_rounds kind) f → c.width ≡ 8
rounds_wide kind f e = ap (λ (column : Column). column.width) e

module _ (kind : Kind) (f : Figure) {c : Column} {count : ℕ} where
  -- they hold the values of the sheet
  module _ (s values : List ℕ) where
    pub angles_held : count ≡ angle_count f → c ≡ angle_column (pass_of kind) (carries_rounds kind) f → values ≡ column_values s c count
        → values ≡ (values_read kind f s).angles
    angles_held n e is = (rw (n, e) at is) ∙ sym (angles_read kind f s)

    pub rounds_held_lem : count ≡ angle_count f → carries_rounds kind ≡ true → c ≡ rounds_column (pass_of kind) (carries_rounds kind) f
        → values ≡ values_held (λ width field. field % 256) s c count → values ≡ (values_read kind f s).rounds
    rounds_held_lem n carried e is =
        let as_bytes : values ≡ column_values s c count = is ∙ bytes_held s _ count (rounds_wide kind f e) in
        (rw (n, e) at as_bytes) ∙ sym (rounds_read kind f s carried)

    pub fixed_held : count ≡ fixed_in kind f → c ≡ fixed_column (carries_rounds kind) f → values ≡ column_values s c count
        → values ≡ (values_read kind f s).fixed
    fixed_held n e is = (rw (n, e) at is) ∙ sym (fixed_read kind f s)

    pub log_sines_held : count ≡ sine_entries_in kind f → c ≡ log_sine_column (carries_rounds kind) f → values ≡ column_values s c count
        → values ≡ (values_read kind f s).log_sines
    log_sines_held n e is = (rw (n, e) at is) ∙ sym (log_sines_read kind f s)

    pub log_sides_held : count ≡ sides_in kind f → c ≡ log_side_column → values ≡ column_values s c count
        → values ≡ (values_read kind f s).log_sides
    log_sides_held n e is = (rw (n, e) at is) ∙ sym (log_sides_read kind f s)

  pub differences_held : (s : List ℕ) (values : List ℤ) → count ≡ sine_entries_in kind f → c ≡ difference_column (carries_rounds kind) f
      → values ≡ signed_column_values s c count
      → values ≡ (values_read kind f s).differences
  differences_held s values n e is = (rw (n, e) at is) ∙ sym (differences_read kind f s)
