-- The values of a packed sheet and its bytes: document 01, "Packed sheets", and document 02, M-106, for the rounds. Both follow from the
-- layout of its kind and figure.
use Rattle.std.specs.Prelude.{ℕ, suc, cond, List, map, ℤ, pos, Result, Ok}
use Rattle.whole.specs.Lists.{listed}
use Rattle.refusals.specs.{declared.Refusal.Refusal, Numbers.numbered}
use Rattle.sheet_rules.specs.declared.ReadHead.{ReadHead}
use Rattle.figures.specs.{declared.Figure.Figure, Figure.description, Figure.angle_count}
use Rattle.bits.specs.{Bits.Field, Bits.bytes_of, Bits.packed_bits, Complement.signed_of, Complement.twos_complement}
use Rattle.sheet_layout.specs.{declared.Kind.Kind, Kinds.number_of_kind, Kinds.carries_rounds}
use Rattle.sheet_layout.specs.Layout.{Item, the_kind, the_code, the_n, limit, tolerance, angle, angle_rounds, fixed_angle, log_sine, difference, log_side, width_of, limit_or_tolerance_item, layout, fixed_in, sine_entries_in, sides_in, held}

-- ---- the values of a sheet, and its bytes

pub record Values : Type 0 where
  pub limit_or_tolerance : ℕ
  pub angles : List ℕ
  pub rounds : List ℕ
  pub fixed : List ℕ
  pub log_sines : List ℕ
  pub differences : List ℤ
  pub log_sides : List ℕ

abbrev pub values_from : (limit_or_tolerance : ℕ) (angles rounds fixed log_sines : List ℕ) (differences : List ℤ) (log_sides : List ℕ) → Values
values_from e a r f l d s = record { limit_or_tolerance = e; angles = a; rounds = r; fixed = f; log_sines = l; differences = d; log_sides = s }

-- the number that stands for an item
abbrev pub number_at : Kind → Figure → Values → Item → ℕ
number_at kind f v the_kind = number_of_kind kind
number_at kind f v the_code = (description f).code
number_at kind f v the_n = (description f).n
number_at kind f v limit = v.limit_or_tolerance
number_at kind f v tolerance = v.limit_or_tolerance
number_at kind f v (angle i) = numbered v.angles i 0
number_at kind f v (angle_rounds i) = numbered v.rounds i 0
number_at kind f v (fixed_angle i) = numbered v.fixed i 0
number_at kind f v (log_sine i) = numbered v.log_sines i 0
number_at kind f v (difference i) = twos_complement (width_of (difference i)) (numbered v.differences i (pos 0))
number_at kind f v (log_side i) = numbered v.log_sides i 0

abbrev pub field_of : Kind → Figure → Values → Item → Field
field_of kind f v item = record { width = width_of item; holds = number_at kind f v item }

-- the bytes of a sheet: its fields one after the other, and zero bits that fill the last byte
unfoldable pub packed_sheet : Kind → Figure → Values → List ℕ
packed_sheet kind f v = bytes_of (packed_bits (map (field_of kind f v) (layout kind f)))

-- ---- what a sheet holds

-- g 1, g 2, .., g count
abbrev pub one_of_each : {A : Type 0} → (count : ℕ) → (ℕ → A) → List A
one_of_each count g = listed count (λ i. g (suc i))

-- the rounds of an angle, M-106: "Older kinds read as one round"
abbrev pub rounds_at : Kind → Figure → (sheet : List ℕ) → ℕ → ℕ
rounds_at kind f sheet i = cond (carries_rounds kind) (held (layout kind f) sheet (angle_rounds i)) 1

-- the values that are read off a sheet
unfoldable pub values_read : Kind → Figure → List ℕ → Values
values_read kind f sheet = values_from
    (held (layout kind f) sheet (limit_or_tolerance_item kind))
    (one_of_each (angle_count f) (λ i. held (layout kind f) sheet (angle i)))
    (one_of_each (angle_count f) (rounds_at kind f sheet))
    (one_of_each (fixed_in kind f) (λ i. held (layout kind f) sheet (fixed_angle i)))
    (one_of_each (sine_entries_in kind f) (λ i. held (layout kind f) sheet (log_sine i)))
    (one_of_each (sine_entries_in kind f) (λ i. signed_of (width_of (difference i)) (held (layout kind f) sheet (difference i))))
    (one_of_each (sides_in kind f) (λ i. held (layout kind f) sheet (log_side i)))

-- ---- what the reader answers: the kind, the figure and L or e, or the refusal

abbrev pub Reading : Type 0
Reading = Result ReadHead Refusal

abbrev pub read_as : Kind → Figure → (limit_or_tolerance : ℕ) → Reading
read_as kind f limit_or_tolerance = Ok (record { kind = kind; figure = f; limit_or_tolerance = limit_or_tolerance })

-- a bound on the positions of reader and writer: no sheet is so long
abbrev pub most_bits : ℕ
most_bits = 1_900
