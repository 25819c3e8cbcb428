-- What the parts of the reader answer, in the words of the whole (specs/Judging.antt and specs/Promises.antt of `sheet_rules`).
use Rattle.std.specs.Prelude.{ℕ, List, [], ◌∷◌, length, Err, Ok}
use Rattle.refusals.specs.Numbers.{Verdict}
use Rattle.sheet_rules.specs.Sheet.{Reading, read_as}
use Rattle.refusals.specs.{Order.Row, Order.judged, Promise.Promised, Promise.stored, Table.lengths_row, Table.sheet_size_row, Table.filling_row}
use Rattle.figures.specs.declared.Figure.{Figure}
use Rattle.sheet_layout.specs.{declared.Kind.Kind, Layout.sheet_size}
use Rattle.sheet_rules.specs.{Sheet.Values, Sheet.values_from, Sheet.values_read, Lent.Slices, Lent.slices_of, Lent.lengths_lent}
use Rattle.sheet_rules.specs.Judging.{own_lengths, filling_bits, value_rows, body_rows, reading_after, after_reading}

-- the rows of the body before those of the values: 12, 2, 13
abbrev pub shape_rows : Kind → Figure → (sheet lent : List ℕ) → List Row
shape_rows kind f sheet lent =
    sheet_size_row (length sheet) (sheet_size kind f) ∷ lengths_row lent (own_lengths kind f) ∷ filling_row (filling_bits kind f sheet) ∷ []

abbrev pub answered : Verdict → Kind → Figure → (limit_or_tolerance : ℕ) → Reading
answered (Ok tt) kind f l = read_as kind f l
answered (Err refusal) kind f l = Err refusal

-- what was taken is judged, and stored where it passes
abbrev pub values_of : (limit_or_tolerance : ℕ) → Slices → Values
values_of l taken = values_from l taken.angles taken.rounds taken.fixed taken.log_sines taken.differences taken.log_sides

abbrev pub ValuesPromise : Kind → Figure → (limit_or_tolerance : ℕ) → (taken entry : Slices) → (answer : Reading) → (exit : Slices) → Type 0
ValuesPromise kind f l taken entry answer exit =
    Promised (answered (judged (value_rows kind (values_of l taken))) kind f l) (stored (judged (value_rows kind (values_of l taken))) taken entry) answer exit

-- what the reader promises once kind and figure are known
abbrev pub body_answer : Kind → Figure → (sheet : List ℕ) → Slices → Reading
body_answer kind f sheet lent = reading_after (judged (body_rows kind f sheet (lengths_lent lent))) kind f sheet

abbrev pub BodyPromise : Kind → Figure → (sheet : List ℕ) → (entry : Slices) → (answer : Reading) → (exit : Slices) → Type 0
BodyPromise kind f sheet entry answer exit =
    Promised (body_answer kind f sheet entry) (after_reading (body_answer kind f sheet entry) (λ k g. slices_of (values_read k g sheet)) entry) answer exit
