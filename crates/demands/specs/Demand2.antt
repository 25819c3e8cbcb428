-- Demand 2. "For all eight figures: misclosures, first corrections, rests, reduced coefficients, S, W, second corrections and rounded
-- angles are exactly those defined in 01 from the published fixed-coefficient method. An accepted packed sheet, read and written again, has
-- the same bits, and a written sheet reads back as the same values." Document 02, M-100, adds a ninth figure, of which it says: "demand 2's
-- W is both Wa and Wb, its S the determinant". M-106 adds the rounds of each angle, "unchanged through both passes".
--
-- Said of the numbers that stand in the lent slices after a call: each is what document 01, "The two passes", and M-100 make of what was
-- given and of the numbers in the other slices. Angles and conditions by their index, counted from 0; `vector` reads a slice by the index.
use Rattle.pass_rules.specs.SecondPass.{done_with}
use Rattle.sheet_layout.specs.Head.{headed}
use Rattle.sheet_rules.specs.Sheet.{Reading, read_as}
use Rattle.std.specs.Prelude.{Ok, Some}
use Rattle.refusals.specs.Numbers.{Verdict}
use Rattle.std.specs.Prelude.{ℕ, suc, ◌*◌, ◌≤◌, ◌<◌, true, false, List, ◌≡◌, ℤ, pos, neg_ℤ, nat_abs, ◌+ℤ◌, ◌-ℤ◌, ◌*ℤ◌, length, get_or}
use Rattle.whole.specs.{Quotient.rounded_quotient, Sums.dot, Sums.squares, Sums.vector}
use Rattle.wide_words.specs.Words.{joined}
use Rattle.figures.specs.{declared.Figure.Figure, Numerators.condition_sum, Numerators.numerator}
use Rattle.figures.specs.Figure.{SineCondition, description, denominator, angle_count, condition_count, members_of, target_of, side_count, pole, side, has_side, figure_of}
use Rattle.sheet_layout.specs.{declared.Kind.Kind, Kinds.number_of_kind, Head.head_of}
use Rattle.sheet_rules.specs.{Sheet.Values, Sheet.values_from}
use Rattle.sheet_rules.specs.Judging.{lengths_given}
use Rattle.sheet_rules.specs.Promises.{ReaderPromise, WriterPromise}
use Rattle.sheet_rules.specs.Lent.{Slices, slices_of, lengths_lent}
use Rattle.pass_rules.specs.{FirstPass.should_be, SecondPass.side_reduced_count}
use Rattle.pass_rules.specs.Promises.{FirstGiven, FirstLent, FirstPromise, SecondGiven, SecondLent, SecondPromise}

-- ---- the first pass

-- a natural number of a slice, as a whole number
abbrev pub angle_at : List ℕ → ℕ → ℤ
angle_at angles i = pos (get_or angles i 0)

pub record FirstDone (given : FirstGiven) (lent : FirstLent) : Type 0 where
  pub figure : Figure
  pub named : figure_of given.code given.n ≡ Some figure
  -- how many there are
  pub condition_many : (length lent.misclosures ≡ condition_count figure) × (length lent.rests ≡ condition_count figure)
  pub angle_many : (length lent.numerators ≡ angle_count figure)
      × (length lent.rounded ≡ angle_count figure) × (length lent.corrected ≡ angle_count figure)
  -- "A misclosure is the observed sum minus what it should be"
  pub misclosures : (j : ℕ) → j < condition_count figure
      → vector lent.misclosures j ≡ condition_sum figure (angle_at given.angles) j -ℤ should_be (target_of figure (suc j)) given.fixed
  -- "The numerator of an angle is its row applied to the misclosures"
  pub numerators : (i : ℕ) → i < angle_count figure → vector lent.numerators i ≡ numerator figure (vector lent.misclosures) i
  -- "the exact correction is numerator / D. Rounded: nearest tenth"
  pub rounded : (i : ℕ) → i < angle_count figure
      → vector lent.rounded i ≡ rounded_quotient (vector lent.numerators i) (denominator figure)
  -- "The corrected angle is observed plus rounded"
  pub corrected : (i : ℕ) → i < angle_count figure → angle_at lent.corrected i ≡ angle_at given.angles i +ℤ vector lent.rounded i
  -- M-106: each angle carries the rounds observed, those that were given
  pub rounds_unchanged : lent.corrected_rounds ≡ given.rounds
  -- "The rest of a condition is its misclosure plus the rounded corrections in it"
  pub rests : (j : ℕ) → j < condition_count figure
      → vector lent.rests j ≡ vector lent.misclosures j +ℤ condition_sum figure (vector lent.rounded) j
  -- and is at most half a tenth for each angle of the condition
  pub rests_small : (j : ℕ) → j < condition_count figure → 2 * nat_abs (vector lent.rests j) ≤ length (members_of figure (suc j))

abbrev pub FirstPass : Type 0
FirstPass = (given : FirstGiven) (entry exit : FirstLent) → FirstPromise given entry (Ok tt) exit → FirstDone given exit

-- ---- the second pass. Every figure has a pole, to which A and W belong. A figure with a side condition has B and a second W of it, and
-- the determinant in the place of S

-- "d is the signed sine difference": signed as a sine condition says
abbrev pub signed : SineCondition → (differences : List ℤ) → ℕ → ℤ
signed sine differences i = vector sine.signs i *ℤ vector differences i

-- "D·d plus the first-pass numerator for misclosures equal to each condition's sum of d"
abbrev pub reduced_by : Figure → (d : ℕ → ℤ) → ℕ → ℤ
reduced_by f d i = pos (denominator f) *ℤ d i +ℤ numerator f (condition_sum f d) i

-- "the signed sum of log-sines"
abbrev pub signed_sum : Figure → SineCondition → (log_sines : List ℕ) → ℤ
signed_sum f sine log_sines = dot (angle_count f) (vector sine.signs) (angle_at log_sines)

-- a numerator stands in two slices as two words, high·2^64 + low
abbrev pub numerators_in : SecondLent → ℕ → ℤ
numerators_in lent i = joined (vector lent.high_numerators i) (get_or lent.low_numerators i 0)

-- of a figure with one sine condition
pub record OneSine (f : Figure) (w sideW divisor : ℤ) (lent : SecondLent) : Type 0 where
  -- "S is the sum of A²"
  pub sum_of_squares_is : divisor ≡ squares (angle_count f) (vector lent.reduced)
  -- there is one W
  pub no_side : sideW ≡ pos 0
  -- "Exact correction in tenths: −100·D·A·W / S"
  pub numerators : (i : ℕ) → i < angle_count f
      → numerators_in lent i ≡ neg_ℤ (pos 100) *ℤ pos (denominator f) *ℤ vector lent.reduced i *ℤ w

-- M-100: "[AB] a sum of products"
abbrev pub products : Figure → (a b : ℕ → ℤ) → ℤ
products f a b = dot (angle_count f) a b

-- "the determinant [AA][BB] − [AB]²"
abbrev pub determinant_of : Figure → (a b : ℕ → ℤ) → ℤ
determinant_of f a b = products f a a *ℤ products f b b -ℤ products f a b *ℤ products f a b

-- "the exact correction in tenths is −2400 times (A·([BB]·Wa − [AB]·Wb) + B·([AA]·Wb − [AB]·Wa)) over the determinant": its
-- numerator, where 2400 is 100·D
abbrev pub exact_of_two : Figure → (a b : ℕ → ℤ) → (wa wb : ℤ) → ℕ → ℤ
exact_of_two f a b wa wb i =
    neg_ℤ (pos 100) *ℤ pos (denominator f)
    *ℤ (a i *ℤ (products f b b *ℤ wa -ℤ products f a b *ℤ wb) +ℤ b i *ℤ (products f a a *ℤ wb -ℤ products f a b *ℤ wa))

-- of a figure with two: "A, B the reduced coefficients of pole and side"
pub record TwoSines (f : Figure) (given : SecondGiven) (w sideW divisor : ℤ) (lent : SecondLent) : Type 0 where
  pub side_reduced_is : (i : ℕ) → i < angle_count f
      → vector lent.side_reduced i ≡ reduced_by f (signed (side f) given.entries.differences) i
  -- "log side 1 + r of 1 − c of 1 − log side 4 − l of 4 + c of 4"
  pub side_misclosure_is : sideW
      ≡ signed_sum f (side f) given.entries.log_sines +ℤ dot (side_count f) (vector (side f).sides) (angle_at given.entries.log_sides)
  pub determinant : divisor ≡ determinant_of f (vector lent.reduced) (vector lent.side_reduced)
  pub numerators : (i : ℕ) → i < angle_count f
      → numerators_in lent i ≡ exact_of_two f (vector lent.reduced) (vector lent.side_reduced) w sideW i

pub record SecondDone (given : SecondGiven) (w sideW divisor : ℤ) (lent : SecondLent) : Type 0 where
  pub figure : Figure
  pub named : figure_of given.code given.n ≡ Some figure
  -- how many there are
  pub angle_many : (length lent.reduced ≡ angle_count figure)
      × (length lent.high_numerators ≡ angle_count figure) × (length lent.low_numerators ≡ angle_count figure)
      × (length lent.rounded ≡ angle_count figure) × (length lent.adjusted ≡ angle_count figure)
  pub side_many : length lent.side_reduced ≡ side_reduced_count figure
  pub condition_many : length lent.rests ≡ condition_count figure
  -- "Reduced coefficient A of an angle: D·d plus the first-pass numerator for misclosures equal to each condition's sum of d"
  pub reduced : (i : ℕ) → i < angle_count figure
      → vector lent.reduced i ≡ reduced_by figure (signed (pole figure) given.entries.differences) i
  -- "W is the signed sum of log-sines"
  pub sine_misclosure_is : w ≡ signed_sum figure (pole figure) given.entries.log_sines
  -- S and the exact corrections over it; or B, the other W, the determinant and the exact corrections over that
  pub one_sine : has_side figure ≡ false → OneSine figure w sideW divisor lent
  pub two_sines : has_side figure ≡ true → TwoSines figure given w sideW divisor lent
  -- "Rounding as above"
  pub rounded : (i : ℕ) → i < angle_count figure → vector lent.rounded i ≡ rounded_quotient (numerators_in lent i) (nat_abs divisor)
  -- "adjusted angle is given angle plus rounded"
  pub adjusted : (i : ℕ) → i < angle_count figure → angle_at lent.adjusted i ≡ angle_at given.angles i +ℤ vector lent.rounded i
  -- M-106: each angle carries the rounds observed, those that were given
  pub rounds_unchanged : lent.adjusted_rounds ≡ given.rounds
  -- "The rest of a condition is the sum of rounded second corrections in it"
  pub rests : (j : ℕ) → j < condition_count figure → vector lent.rests j ≡ condition_sum figure (vector lent.rounded) j
  -- and is at most half a tenth for each angle of the condition
  pub rests_small : (j : ℕ) → j < condition_count figure → 2 * nat_abs (vector lent.rests j) ≤ length (members_of figure (suc j))

-- S or the determinant is answered as two words, high·2^64 + low
abbrev pub SecondPass : Type 0
SecondPass =
    (given : SecondGiven) (w sideW : ℤ) (high low : ℕ) (entry exit : SecondLent) → SecondPromise given entry (done_with w sideW high low) exit
    → SecondDone given w sideW (joined (pos high) low) exit

-- ---- packed sheets

-- which holds of every slice of bytes that is lent
abbrev pub AreBytes : List ℕ → Type 0
AreBytes sheet = (i : ℕ) → get_or sheet i 0 < 256

-- what is left in the slices of a reader, with L or e, as the values of a sheet
abbrev pub values_in : (limit_or_tolerance : ℕ) → Slices → Values
values_in limit_or_tolerance lent =
    values_from limit_or_tolerance lent.angles lent.rounds lent.fixed lent.log_sines lent.differences lent.log_sides

-- "An accepted packed sheet, read and written again, has the same bits": and the writer accepts it
abbrev pub ReadThenWritten : Type 0
ReadThenWritten =
    (sheet : List ℕ) → AreBytes sheet
    → (kind : Kind) (f : Figure) (limit_or_tolerance : ℕ) (lent values : Slices)
    → ReaderPromise sheet lent (read_as kind f limit_or_tolerance) values
    → (room written : List ℕ) (answer : Verdict) → length room ≡ length sheet
    → WriterPromise (number_of_kind kind) (description f).code (description f).n (values_in limit_or_tolerance values) room answer written
    → (answer ≡ Ok tt) × (written ≡ sheet)

-- "a written sheet reads back as the same values": the kind and the figure that were named, L or e, and the values; and the reader
-- accepts it
pub record ReadBack (kind code n : ℕ) (v : Values) (answer : Reading) (values : Slices) : Type 0 where
  pub kind_read : Kind
  pub figure_read : Figure
  pub named : head_of kind code n ≡ headed kind_read figure_read
  pub answers : answer ≡ read_as kind_read figure_read v.limit_or_tolerance
  pub leaves : values ≡ slices_of v

abbrev pub WrittenThenRead : Type 0
WrittenThenRead =
    (kind code n : ℕ) (v : Values) (room sheet : List ℕ) → WriterPromise kind code n v room (Ok tt) sheet
    → (lent values : Slices) (answer : Reading) → lengths_lent lent ≡ lengths_given v → ReaderPromise sheet lent answer values
    → ReadBack kind code n v answer values
