-- Where the reader looks for the values of one sort: at start, start + step, start + 2·step and so on, each in the same width. That
-- these are where the layout has them is a law (proofs/ColumnLaws.antt).
use Rattle.std.specs.Prelude.{ℕ, ◌+◌, ◌*◌, ◌≤◌, Bool, List, ℤ}
use Rattle.whole.specs.Lists.{listed}
use Rattle.figures.specs.{declared.Figure.Figure, Figure.angle_count, Figure.side_count, Numerators.most_angles}
use Rattle.bits.specs.{Bits.field_at, Complement.signed_of}
use Rattle.sheet_layout.specs.{declared.Pass.Pass, Layout.rounds_bits}
use Rattle.sheet_rules.specs.Sheet.{most_bits}
use Rattle.sheet_reader.specs.declared.columns.Column.{Column}

abbrev pub column_from : (start step width : ℕ) → Column
column_from a b w = record { start = a; step = b; width = w }

-- where the rows for the second pass begin, after the known log sides
abbrev pub rows_start : Figure → ℕ
rows_start f = 18 + 27 * side_count f

-- by the pass, and whether each angle has its rounds after it
abbrev pub angle_column : Pass → (rounds : Bool) → Figure → Column
angle_column Pass.First rounds f = column_from 22 (23 + rounds_bits rounds) 23
angle_column Pass.Second rounds f = column_from (rows_start f) (65 + rounds_bits rounds) 23

abbrev pub rounds_column : Pass → (rounds : Bool) → Figure → Column
rounds_column pass rounds f = column_from ((angle_column pass rounds f).start + 23) (angle_column pass rounds f).step 8

abbrev pub fixed_column : (rounds : Bool) → Figure → Column
fixed_column rounds f = column_from (22 + 23 * angle_count f + rounds_bits rounds * angle_count f) 23 23

abbrev pub log_sine_column : (rounds : Bool) → Figure → Column
log_sine_column rounds f = column_from (rows_start f + 23 + rounds_bits rounds) (65 + rounds_bits rounds) 27

abbrev pub difference_column : (rounds : Bool) → Figure → Column
difference_column rounds f = column_from (rows_start f + 50 + rounds_bits rounds) (65 + rounds_bits rounds) 15

abbrev pub log_side_column : Column
log_side_column = column_from 18 27 27

-- so many of its values are few, and end early
abbrev pub ColumnFits : Column → (count : ℕ) → Type 0
ColumnFits c count = (count ≤ most_angles) × (c.start + c.step * count ≤ most_bits)

-- what its fields hold, each as a value of one sort
unfoldable pub values_held : {A : Type 0} → (held : (width field : ℕ) → A) → List ℕ → Column → (count : ℕ) → List A
values_held held sheet c count = listed count (λ i. held c.width (field_at sheet (c.start + c.step * i) c.width))

-- the values of a column
abbrev pub column_values : List ℕ → Column → (count : ℕ) → List ℕ
column_values sheet c count = values_held (λ width field. field) sheet c count

abbrev pub signed_column_values : List ℕ → Column → (count : ℕ) → List ℤ
signed_column_values sheet c count = values_held signed_of sheet c count
