-- The layout of a packed sheet: document 01, "Packed sheets". "Fields run on without gaps, most significant bit first; zero bits fill the
-- last byte." A kind's fields are one row of `layout`, by the pass that it is for and whether it carries rounds; the size of a sheet, the
-- values that are read off it and its bytes all follow from that row.
use Rattle.std.specs.Prelude.{ℕ, ◌+◌, Bool, cond, ◌&&◌, List, [], ◌∷◌, ◌++◌, map, eqb}
use Rattle.figures.specs.{declared.Figure.Figure, Figure.angle_count, Figure.fixed_count, Figure.side_count, Rows.each_of}
use Rattle.bits.specs.Bits.{field_at, total_width, byte_count}
use Rattle.sheet_layout.specs.{declared.Kind.Kind, declared.Lengths.Lengths, declared.Pass.Pass}
use Rattle.sheet_layout.specs.Kinds.{pass_of, carries_rounds, of_pass}

-- ---- what stands in a sheet, and in which width

-- angles, their rounds, fixed angles, log-sines, differences and known log sides by their number, counted from 1
pub data Item : Type 0 where
  the_kind : Item
  the_code : Item
  the_n : Item
  limit : Item
  tolerance : Item
  angle : ℕ → Item
  angle_rounds : ℕ → Item
  fixed_angle : ℕ → Item
  log_sine : ℕ → Item
  difference : ℕ → Item
  log_side : ℕ → Item

-- "kind 4 bits, code 4, n 4, L 10, each angle 23"; "e 6"; "23 angle, 27 log-sine, 15 sine difference"; M-100: a log side 27;
-- M-106: the rounds of an observed angle 8
abbrev pub width_of : Item → ℕ
width_of the_kind = 4
width_of the_code = 4
width_of the_n = 4
width_of limit = 10
width_of tolerance = 6
width_of (angle i) = 23
width_of (angle_rounds i) = 8
width_of (fixed_angle i) = 23
width_of (log_sine i) = 27
width_of (difference i) = 15
width_of (log_side i) = 27

-- L or e
abbrev pub limit_or_tolerance_item : Kind → Item
limit_or_tolerance_item kind = of_pass (pass_of kind) limit tolerance

-- what stands in every sheet, of whatever kind
abbrev pub head : List Item
head = the_kind ∷ the_code ∷ the_n ∷ []

-- M-106: "8 bits more right after the 23 bits of each observed angle"
abbrev pub angle_items : (rounds : Bool) → ℕ → List Item
angle_items rounds i = angle i ∷ cond rounds (angle_rounds i ∷ []) []

-- for the first pass, kinds 1, 3 and 4: each angle, then the fixed angles. For the second, kinds 2 and 5: the known log sides (M-100,
-- "after e"), then per angle the angle, its log-sine and its sine difference; the rounds right after each angle
abbrev pub body : Pass → (rounds : Bool) → Figure → List Item
body Pass.First rounds f = each_of (angle_count f) (angle_items rounds) ++ each_of (fixed_count f) (λ j. fixed_angle j ∷ [])
body Pass.Second rounds f =
    each_of (side_count f) (λ j. log_side j ∷ []) ++ each_of (angle_count f) (λ i. angle_items rounds i ++ (log_sine i ∷ difference i ∷ []))

unfoldable pub layout : Kind → Figure → List Item
layout kind f = head ++ (limit_or_tolerance_item kind ∷ body (pass_of kind) (carries_rounds kind) f)

-- the bits that an angle's rounds take
abbrev pub rounds_bits : (rounds : Bool) → ℕ
rounds_bits rounds = cond rounds 8 0

-- ---- how many of each, and how many bytes

-- rounds that stand in the sheet
abbrev pub rounds_in : Kind → Figure → ℕ
rounds_in kind f = cond (carries_rounds kind) (angle_count f) 0

abbrev pub fixed_in : Kind → Figure → ℕ
fixed_in kind f = of_pass (pass_of kind) (fixed_count f) 0

abbrev pub sine_entries_in : Kind → Figure → ℕ
sine_entries_in kind f = of_pass (pass_of kind) 0 (angle_count f)

abbrev pub sides_in : Kind → Figure → ℕ
sides_in kind f = of_pass (pass_of kind) 0 (side_count f)

abbrev pub lengths_from : (angles rounds fixed log_sines differences log_sides : ℕ) → Lengths
lengths_from a r f l d s = record { angles = a; rounds = r; fixed = f; log_sines = l; differences = d; log_sides = s }

-- how long each slice of values is; every angle has its rounds, also where they do not stand in the sheet
abbrev pub lengths_of : Kind → Figure → Lengths
lengths_of kind f =
    lengths_from (angle_count f) (angle_count f) (fixed_in kind f) (sine_entries_in kind f) (sine_entries_in kind f) (sides_in kind f)

-- how many bits the fields take, and how many bytes hold them
unfoldable pub bit_count : Kind → Figure → ℕ
bit_count kind f = total_width (map width_of (layout kind f))

unfoldable pub sheet_size : Kind → Figure → ℕ
sheet_size kind f = byte_count (bit_count kind f)

-- ---- where each item begins, and what a sheet holds there

-- an item is told by its sort and its number
unfoldable pub sort : Item → ℕ
sort the_kind = 0
sort the_code = 1
sort the_n = 2
sort limit = 3
sort tolerance = 4
sort (angle i) = 5
sort (angle_rounds i) = 6
sort (fixed_angle i) = 7
sort (log_sine i) = 8
sort (difference i) = 9
sort (log_side i) = 10

unfoldable pub number_of_item : Item → ℕ
number_of_item the_kind = 0
number_of_item the_code = 0
number_of_item the_n = 0
number_of_item limit = 0
number_of_item tolerance = 0
number_of_item (angle i) = i
number_of_item (angle_rounds i) = i
number_of_item (fixed_angle i) = i
number_of_item (log_sine i) = i
number_of_item (difference i) = i
number_of_item (log_side i) = i

unfoldable pub same : Item → Item → Bool
unfolding sort number_of_item
same p q = eqb (sort p) (sort q) && eqb (number_of_item p) (number_of_item q)

-- where an item begins, counted in bits: after the widths of all items before it
unfoldable pub position_of : Item → List Item → ℕ
unfolding same
position_of p [] = 0
position_of p (q ∷ later) = cond (same p q) 0 (width_of q + position_of p later)

-- what a sheet that is laid out so holds as an item
unfoldable pub held : List Item → List ℕ → Item → ℕ
held items sheet item = field_at sheet (position_of item items) (width_of item)
