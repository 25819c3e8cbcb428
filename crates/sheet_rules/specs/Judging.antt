-- How sheets are turned back: document 01, "Numbers given when a sheet is turned back", and document 02, M-101 for number 14 and M-106 for
-- number 16. The reader's order and the writer's, each as one list of rows. Both begin with the rows of the head (specs/Head.antt of
-- `sheet_layout`).
use Rattle.std.specs.Prelude.{Err, Ok}
use Rattle.sheet_layout.specs.Head.{Look}
use Rattle.sheet_rules.specs.Sheet.{Reading, read_as}
use Rattle.std.specs.Prelude.{Err, Ok}
use Rattle.refusals.specs.Numbers.{Verdict}
use Rattle.std.specs.Prelude.{ℕ, Bool, cond, List, [], ◌∷◌, ◌++◌, length, drop}
use Rattle.refusals.specs.{Numbers.Told, Numbers.told, Numbers.refusal_told, Order.Row, Order.judged}
use Rattle.refusals.specs.Ranges.{most_limit, most_tolerance, most_rounds}
use Rattle.refusals.specs.Table.{lengths_row, limit_or_tolerance_row, angles_row, rounds_row, fixed_row, fixed_sum_row, sine_entries_row, sheet_size_row, filling_row}
use Rattle.figures.specs.declared.Figure.{Figure}
use Rattle.bits.specs.Bits.{bits_of}
use Rattle.sheet_layout.specs.{declared.Kind.Kind, Kinds.pass_of, Kinds.carries_rounds, Kinds.of_pass}
use Rattle.sheet_layout.specs.{Layout.lengths_of, Layout.bit_count, Layout.sheet_size}
use Rattle.sheet_layout.specs.Head.{name_rows, head_of, of_head, head_rows, look_of}
use Rattle.sheet_rules.specs.Sheet.{Values, values_read, packed_sheet}

-- ---- the values: 3, 4, 16, 5, 14, 8

-- L for the first pass, e for the second
abbrev pub most_limit_or_tolerance : Kind → ℕ
most_limit_or_tolerance kind = of_pass (pass_of kind) most_limit most_tolerance

-- M-106: an older kind has one round for each angle, and "writing one with another count gives 16 too"
abbrev pub most_rounds_of : Kind → ℕ
most_rounds_of kind = cond (carries_rounds kind) most_rounds 1

-- number 8 asks of the angles' entries, and then of the known log sides, which have the places after them (M-100)
abbrev pub value_rows : Kind → Values → List Row
value_rows kind v =
    limit_or_tolerance_row (most_limit_or_tolerance kind) v.limit_or_tolerance
    ∷ angles_row v.angles
    ∷ rounds_row (most_rounds_of kind) v.rounds
    ∷ fixed_row v.fixed
    ∷ fixed_sum_row v.fixed
    ∷ sine_entries_row (v.log_sines ++ v.log_sides) v.differences
    ∷ []

-- ---- the lengths of slices: angles, rounds, fixed angles, log-sines, differences, log sides

abbrev pub own_lengths : Kind → Figure → List ℕ
own_lengths kind f =
    (lengths_of kind f).angles ∷ (lengths_of kind f).rounds ∷ (lengths_of kind f).fixed ∷ (lengths_of kind f).log_sines
    ∷ (lengths_of kind f).differences ∷ (lengths_of kind f).log_sides ∷ []

abbrev pub lengths_given : Values → List ℕ
lengths_given v =
    length v.angles ∷ length v.rounds ∷ length v.fixed ∷ length v.log_sines ∷ length v.differences ∷ length v.log_sides ∷ []

-- ---- the reader: 12 if under two bytes, then 11, 1, 12, 2 (slices lent for the values), 13, 3, 4, 16, 5, 14, 8

-- the bits after the last field
abbrev pub filling_bits : Kind → Figure → (sheet : List ℕ) → List Bool
filling_bits kind f sheet = drop (bit_count kind f) (bits_of sheet)

-- once kind and figure are known: 12, 2, 13, 3, 4, 16, 5, 14, 8
unfoldable pub body_rows : Kind → Figure → (sheet lent : List ℕ) → List Row
body_rows kind f sheet lent =
    sheet_size_row (length sheet) (sheet_size kind f)
    ∷ lengths_row lent (own_lengths kind f)
    ∷ filling_row (filling_bits kind f sheet)
    ∷ value_rows kind (values_read kind f sheet)

-- `lent` are the lengths of the slices that are lent
unfoldable pub reader_rows : (sheet lent : List ℕ) → List Row
reader_rows sheet lent = head_rows sheet ++ of_head (look_of sheet) [] (λ kind f. body_rows kind f sheet lent)

-- what the reader answers; L or e as packed, so that 0 stays 0
abbrev pub reading_after : Verdict → Kind → Figure → (sheet : List ℕ) → Reading
reading_after (Ok tt) kind f sheet = read_as kind f (values_read kind f sheet).limit_or_tolerance
reading_after (Err refusal) kind f sheet = Err refusal

abbrev pub reading_found : Look → Verdict → (sheet : List ℕ) → Reading
reading_found (Ok head) verdict sheet = reading_after verdict head.kind head.figure sheet
reading_found (Err refusal) verdict sheet = Err refusal

unfoldable pub reading_of : (sheet lent : List ℕ) → Reading
reading_of sheet lent = reading_found (look_of sheet) (judged (reader_rows sheet lent)) sheet

-- its number and place
abbrev pub reading_told : Reading → Told
reading_told (Ok read) = told 0 0
reading_told (Err refusal) = refusal_told refusal

-- what is lent to the reader holds after it has answered: what the kind and the figure that it read say, or what it held
abbrev pub after_reading : {A : Type 0} → Reading → (values : Kind → Figure → A) → (before : A) → A
after_reading (Ok read) values before = values read.kind read.figure
after_reading (Err refusal) values before = before

-- ---- the writer: 11, 1, 2, 3, 4, 16, 5, 14, 8

-- once kind and figure are known: 2, 3, 4, 16, 5, 14, 8; `size` is the length of the byte slice that is lent
unfoldable pub given_rows : Kind → Figure → Values → (size : ℕ) → List Row
given_rows kind f v size =
    lengths_row (lengths_given v ++ (size ∷ [])) (own_lengths kind f ++ (sheet_size kind f ∷ [])) ∷ value_rows kind v

unfoldable pub writer_rows : (kind code n : ℕ) → Values → (size : ℕ) → List Row
writer_rows kind code n v size = name_rows kind code n ++ of_head (head_of kind code n) [] (λ k f. given_rows k f v size)

unfoldable pub writing_of : (kind code n : ℕ) → Values → (size : ℕ) → Verdict
writing_of kind code n v size = judged (writer_rows kind code n v size)

-- what the byte slice holds after the writer has answered: the sheet, or what it held
abbrev pub after_writing : Verdict → (sheet before : List ℕ) → List ℕ
after_writing (Ok tt) sheet before = sheet
after_writing (Err refusal) sheet before = before

unfoldable pub written_of : (kind code n : ℕ) → Values → (before : List ℕ) → List ℕ
written_of kind code n v before =
    of_head (head_of kind code n) before (λ k f. after_writing (writing_of kind code n v (length before)) (packed_sheet k f v) before)
