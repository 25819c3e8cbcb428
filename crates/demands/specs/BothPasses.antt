-- Document 02, M-107, both passes together. "Among all corrections over one common denominator that cancel the linear misclosures and
-- change each linearised sine sum as ours do, none has a smaller sum of squares than the exact first plus exact second corrections, and
-- only they reach it. Premises: both passes accepted, the second on the first's corrected angles, before rounding."
--
-- Said of the misclosures and numerators that stand in the lent slices, as demand 3 is. Ours are first numerator / D + second numerator /
-- S, where S is the determinant for a figure with two sine conditions; in whole numbers, both sides are multiplied by the denominators.
use Rattle.pass_rules.specs.SecondPass.{done_with}
use Rattle.std.specs.Prelude.{Ok, Some}
use Rattle.std.specs.Prelude.{ℕ, ◌*◌, ◌<◌, true, List, ◌≡◌, ℤ, pos, nat_abs, ◌+ℤ◌, ◌-ℤ◌, ◌*ℤ◌, get_or, ◌≤ℤ◌}
use Rattle.whole.specs.Sums.{dot, vector}
use Rattle.wide_words.specs.Words.{joined}
use Rattle.figures.specs.declared.Figure.{Figure}
use Rattle.figures.specs.Figure.{SineCondition, denominator, angle_count, pole, side, has_side, figure_of}
use Rattle.pass_rules.specs.Promises.{FirstGiven, FirstLent, FirstPromise, SecondGiven, SecondLent, SecondPromise}
use Rattle.controller.specs.Promises.{FirstPassPromise, SumsLent, SecondPassPromise}
use Rattle.demands.specs.{Demand2.signed, Demand2.numerators_in, Demand3.Cancel, Demand3.squares_over}

-- ---- "corrections over one common denominator": any whole numbers x over q

-- what x changes a linearised sine sum by: the sum of d times x, with the signed sine differences d of a sine condition
abbrev pub sine_change : Figure → SineCondition → (differences : List ℤ) → (x : ℕ → ℤ) → ℤ
sine_change f sine differences x = dot (angle_count f) (signed sine differences) x

-- x / q and y / p "change each linearised sine sum" alike: that of the pole, and of a figure with two sine conditions the other
pub record ChangeAlike (f : Figure) (differences : List ℤ) (q : ℕ) (x : ℕ → ℤ) (p : ℕ) (y : ℕ → ℤ) : Type 0 where
  pub pole_alike : pos p *ℤ sine_change f (pole f) differences x ≡ pos q *ℤ sine_change f (pole f) differences y
  pub side_alike : has_side f ≡ true → pos p *ℤ sine_change f (side f) differences x ≡ pos q *ℤ sine_change f (side f) differences y

-- corrections y / p are the least of all that "cancel the linear misclosures and change each linearised sine sum as ours do"
pub record LeastOfAll (f : Figure) (differences : List ℤ) (misclosures : ℕ → ℤ) (p : ℕ) (y : ℕ → ℤ) : Type 0 where
  -- they cancel every listed misclosure
  pub cancel : Cancel f p y misclosures
  -- "none has a smaller sum of squares"
  pub never_below : (q : ℕ) → 0 < q → (x : ℕ → ℤ) → Cancel f q x misclosures → ChangeAlike f differences q x p y
      → squares_over f q y ≤ℤ squares_over f p x
  -- "and only they reach it": x / q = y / p
  pub only_the_same : (q : ℕ) → 0 < q → (x : ℕ → ℤ) → Cancel f q x misclosures → ChangeAlike f differences q x p y
      → squares_over f q y ≡ squares_over f p x
      → (i : ℕ) → i < angle_count f → pos p *ℤ x i ≡ pos q *ℤ y i

-- ---- ours

-- their common denominator, D·S
abbrev pub common_denominator : Figure → (S : ℕ) → ℕ
common_denominator f S = denominator f * S

-- "the exact first plus exact second corrections", first / D + second / S, over D·S
abbrev pub first_plus_second : Figure → (S : ℕ) → (first second : ℕ → ℤ) → ℕ → ℤ
first_plus_second f S first second i = pos S *ℤ first i +ℤ pos (denominator f) *ℤ second i

-- first numerators over D and second over S; W of each sine condition, as the second pass answered it
pub record BothTogether (f : Figure) (differences : List ℤ) (misclosures first second : ℕ → ℤ) (w sideW : ℤ) (S : ℕ) : Type 0 where
  pub denominator_positive : 0 < common_denominator f S
  pub least : LeastOfAll f differences misclosures (common_denominator f S) (first_plus_second f S first second)
  -- ours change the sine sum by what the first corrections did, less 100·W; times D·S
  pub sine : sine_change f (pole f) differences (first_plus_second f S first second)
      ≡ pos S *ℤ sine_change f (pole f) differences first -ℤ pos 100 *ℤ w *ℤ pos (common_denominator f S)
  -- and where there are two, the other likewise
  pub side_sine : has_side f ≡ true
      → sine_change f (side f) differences (first_plus_second f S first second)
      ≡ pos S *ℤ sine_change f (side f) differences first -ℤ pos 100 *ℤ sideW *ℤ pos (common_denominator f S)

-- ---- the passes: of one figure, "both accepted, the second on the first's corrected angles". S or the determinant is answered as two
-- words; it is above 0, and so its own magnitude

abbrev pub BothPasses : Type 0
BothPasses =
    (first_given : FirstGiven) (firstEntry firstExit : FirstLent) → FirstPromise first_given firstEntry (Ok tt) firstExit
    → (second_given : SecondGiven) (w sideW : ℤ) (high low : ℕ) (secondEntry secondExit : SecondLent)
    → SecondPromise second_given secondEntry (done_with w sideW high low) secondExit
    → (f : Figure) → figure_of first_given.code first_given.n ≡ Some f → figure_of second_given.code second_given.n ≡ Some f
    → second_given.angles ≡ firstExit.corrected
    → BothTogether f second_given.entries.differences (vector firstExit.misclosures) (vector firstExit.numerators)
    (numerators_in secondExit) w sideW (nat_abs (joined (pos high) low))

-- the same for C: both answers are 0, W or both stand in `misclosures`, and the two words of S or the determinant in `divisor`
abbrev pub BothPassesC : Type 0
BothPassesC =
    (first_given : FirstGiven) (firstEntry firstExit : FirstLent) → FirstPassPromise first_given firstEntry 0 firstExit
    → (second_given : SecondGiven) (secondEntry secondExit : SumsLent) → SecondPassPromise second_given secondEntry 0 secondExit
    → (f : Figure) → figure_of first_given.code first_given.n ≡ Some f → figure_of second_given.code second_given.n ≡ Some f
    → second_given.angles ≡ firstExit.corrected
    → BothTogether f second_given.entries.differences (vector firstExit.misclosures) (vector firstExit.numerators)
    (numerators_in secondExit.values) (vector secondExit.misclosures 0) (vector secondExit.misclosures 1)
    (nat_abs (joined (pos (get_or secondExit.divisor 0 0)) (get_or secondExit.divisor 1 0)))
