-- What the parts of the writer compute, in the words of the whole (specs/Sheet.antt of `sheet_rules`).
use Rattle.refusals.specs.Numbers.{Verdict}
use Rattle.std.specs.Prelude.{ℕ, ◌+◌, ◌*◌, Bool, cond, List, [], ◌∷◌, ◌++◌, ◌≡◌, ℤ, pos, length}
use Rattle.refusals.specs.{Numbers.numbered, Order.judged, Promise.Promised}
use Rattle.bits.specs.{Bits.Field, Complement.twos_complement}
use Rattle.figures.specs.{declared.Figure.Figure, Rows.each_of}
use Rattle.sheet_layout.specs.{declared.Kind.Kind, declared.Pass.Pass}
use Rattle.sheet_layout.specs.Layout.{the_kind, the_code, the_n, width_of, rounds_bits}
use Rattle.sheet_rules.specs.{Sheet.Values, Sheet.packed_sheet, Judging.given_rows, Judging.after_writing}
use Rattle.sheet_writer.specs.{declared.packer.Packer.Packer, Packer.HasRoom}

abbrev pub field_from : (width holds : ℕ) → Field
field_from w v = record { width = w; holds = v }

-- the fields of a sheet, part by part: the head; L or e; fixed angles for the first pass, or log sides for the second; an angle and its
-- rounds, where they are carried, and for the second pass its log-sine and its difference, angle by angle
abbrev pub head_fields : (kind code n : ℕ) → List Field
head_fields kind code n = field_from (width_of the_kind) kind ∷ field_from (width_of the_code) code ∷ field_from (width_of the_n) n ∷ []

abbrev pub column_fields : (width : ℕ) → List ℕ → List Field
column_fields width values = each_of (length values) (λ i. field_from width (numbered values i 0) ∷ [])

abbrev pub angle_fields : (carried : Bool) → (angle rounds : ℕ) → List Field
angle_fields carried angle rounds = field_from 23 angle ∷ cond carried (field_from 8 rounds ∷ []) []

abbrev pub angles_fields : (carried : Bool) → (angles rounds : List ℕ) → List Field
angles_fields carried angles rounds = each_of (length angles) (λ i. angle_fields carried (numbered angles i 0) (numbered rounds i 0))

abbrev pub row_of : (carried : Bool) → (angle rounds log_sine : ℕ) → (difference : ℤ) → List Field
row_of carried angle rounds log_sine difference =
    angle_fields carried angle rounds ++ (field_from 27 log_sine ∷ field_from 15 (twos_complement 15 difference) ∷ [])

abbrev pub row_fields : (carried : Bool) → (angles rounds log_sines : List ℕ) → (differences : List ℤ) → List Field
row_fields carried angles rounds log_sines differences =
    each_of (length angles) (λ i. row_of carried (numbered angles i 0) (numbered rounds i 0) (numbered log_sines i 0) (numbered differences i (pos 0)))

abbrev pub body_fields : Pass → (carried : Bool) → Values → List Field
body_fields Pass.First carried v = angles_fields carried v.angles v.rounds ++ column_fields 23 v.fixed
body_fields Pass.Second carried v = column_fields 27 v.log_sides ++ row_fields carried v.angles v.rounds v.log_sines v.differences

-- there is room for a body, and each angle has its rounds, and for the second pass a log-sine and a difference
abbrev pub BodyFits : (sheet : List ℕ) → Packer → Pass → (carried : Bool) → Values → Type 0
BodyFits sheet p Pass.First carried v =
    HasRoom sheet p ((23 + rounds_bits carried) * length v.angles + 23 * length v.fixed) × (length v.rounds ≡ length v.angles)
BodyFits sheet p Pass.Second carried v =
    HasRoom sheet p (27 * length v.log_sides + (65 + rounds_bits carried) * length v.angles)
    × (length v.rounds ≡ length v.angles) × (length v.log_sines ≡ length v.angles) × (length v.differences ≡ length v.angles)

-- what the writer promises once kind and figure are known
abbrev pub GivenPromise : Kind → Figure → Values → (entry : List ℕ) → (answer : Verdict) → (exit : List ℕ) → Type 0
GivenPromise kind f v entry answer exit =
    Promised (judged (given_rows kind f v (length entry))) (after_writing (judged (given_rows kind f v (length entry))) (packed_sheet kind f v) entry) answer exit
