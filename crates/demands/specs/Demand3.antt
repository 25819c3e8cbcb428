-- Demand 3. "Take any accepted first-pass sheet, and any corrections whatever, as whole numbers over one common denominator, that cancel
-- every listed linear misclosure: the sum of their squares is never below that of our unrounded first corrections, and equals it only if
-- they are the same corrections. Where a second pass is accepted, its unrounded corrections change no linear condition and cancel the
-- linearised sine misclosure exactly." Document 02, M-100, has for its figure "both sine misclosures"; M-101 adds of code 2 that "the
-- exact corrections then close the horizon also".
--
-- Said of the misclosures and numerators that stand in the lent slices. Unrounded corrections are numerator / D in the first pass,
-- numerator / S or numerator / determinant in the second; in whole numbers, both sides are multiplied by the denominators.
use Rattle.pass_rules.specs.SecondPass.{done_with}
use Rattle.std.specs.Prelude.{Ok, Some}
use Rattle.std.specs.Prelude.{ℕ, ◌<◌, true, List, ◌≡◌, ℤ, pos, neg_ℤ, ◌+ℤ◌, ◌-ℤ◌, ◌*ℤ◌, get_or, ◌≤ℤ◌, ◌<ℤ◌}
use Rattle.whole.specs.Sums.{dot, squares, vector}
use Rattle.wide_words.specs.Words.{joined}
use Rattle.figures.specs.{declared.Figure.Figure, Numerators.condition_sum, Numerators.horizon_sum}
use Rattle.figures.specs.Figure.{description, denominator, angle_count, condition_count, pole, side, has_side, figure_of}
use Rattle.pass_rules.specs.Promises.{FirstGiven, FirstLent, FirstPromise, SecondGiven, SecondLent, SecondPromise}
use Rattle.pass_sheet.specs.Worked.{First, Second, WorkedSheet, worked_of, entries_in}
use Rattle.controller.specs.Promises.{FirstPassPromise, SumsLent, SecondPassPromise}
use Rattle.demands.specs.Demand2.{angle_at, signed, numerators_in}

-- corrections x / q cancel every listed misclosure
abbrev pub Cancel : Figure → (q : ℕ) → (x misclosures : ℕ → ℤ) → Type 0
Cancel f q x misclosures = (j : ℕ) → j < condition_count f → condition_sum f x j ≡ neg_ℤ (pos q) *ℤ misclosures j

-- the sum of squares of corrections x / q, times q² and the square of another denominator
abbrev pub squares_over : Figure → (other : ℕ) → (x : ℕ → ℤ) → ℤ
squares_over f other x = pos other *ℤ pos other *ℤ squares (angle_count f) x

-- numerators over D are the least-squares corrections of misclosures
pub record LeastSquares (f : Figure) (misclosures numerators : ℕ → ℤ) : Type 0 where
  -- they cancel every listed misclosure
  pub cancel : Cancel f (denominator f) numerators misclosures
  -- no corrections x / q that do have a smaller sum of squares
  pub never_below : (q : ℕ) → 0 < q → (x : ℕ → ℤ) → Cancel f q x misclosures → squares_over f q numerators ≤ℤ squares_over f (denominator f) x
  -- and only the same corrections have the same: x / q = numerator / D
  pub only_the_same : (q : ℕ) → 0 < q → (x : ℕ → ℤ) → Cancel f q x misclosures
      → squares_over f q numerators ≡ squares_over f (denominator f) x
      → (i : ℕ) → i < angle_count f → pos (denominator f) *ℤ x i ≡ pos q *ℤ numerators i

-- corrections x / q close the horizon: the angles at the inner point, with their corrections, sum to 360°; times q
abbrev pub ClosesHorizon : Figure → (q : ℕ) → (angles : List ℕ) → (x : ℕ → ℤ) → Type 0
ClosesHorizon f q angles x = pos q *ℤ (horizon_sum f (angle_at angles) -ℤ pos 12_960_000) +ℤ horizon_sum f x ≡ pos 0

pub record HorizonCloses (f : Figure) (angles : List ℕ) (misclosures numerators : ℕ → ℤ) : Type 0 where
  -- the exact corrections close it
  pub exact : ClosesHorizon f (denominator f) angles numerators
  -- and so do any corrections x / q that cancel every listed misclosure
  pub every : (q : ℕ) → 0 < q → (x : ℕ → ℤ) → Cancel f q x misclosures → ClosesHorizon f q angles x

-- numerators over S or the determinant change no linear condition, and cancel each sine misclosure
pub record SineCloses (f : Figure) (differences : List ℤ) (numerators : ℕ → ℤ) (w sideW divisor : ℤ) : Type 0 where
  pub divisor_positive : pos 0 <ℤ divisor
  pub linear : (j : ℕ) → j < condition_count f → condition_sum f numerators j ≡ pos 0
  -- "the sum of d times the exact second correction (tenths) is −100·W"
  pub sine : dot (angle_count f) (signed (pole f) differences) numerators ≡ neg_ℤ (pos 100) *ℤ w *ℤ divisor
  -- "both sine misclosures", where there are two
  pub side_sine : has_side f ≡ true → dot (angle_count f) (signed (side f) differences) numerators ≡ neg_ℤ (pos 100) *ℤ sideW *ℤ divisor

-- ---- the passes

abbrev pub FirstPass : Type 0
FirstPass =
    (given : FirstGiven) (entry exit : FirstLent) → FirstPromise given entry (Ok tt) exit
    → (f : Figure) → figure_of given.code given.n ≡ Some f
    → LeastSquares f (vector exit.misclosures) (vector exit.numerators)

-- of code 2, both n
abbrev pub Horizon : Type 0
Horizon =
    (given : FirstGiven) (entry exit : FirstLent) → FirstPromise given entry (Ok tt) exit
    → (f : Figure) → figure_of given.code given.n ≡ Some f → (description f).code ≡ 2
    → HorizonCloses f given.angles (vector exit.misclosures) (vector exit.numerators)

abbrev pub SecondPass : Type 0
SecondPass =
    (given : SecondGiven) (w sideW : ℤ) (high low : ℕ) (entry exit : SecondLent) → SecondPromise given entry (done_with w sideW high low) exit
    → (f : Figure) → figure_of given.code given.n ≡ Some f
    → SineCloses f given.entries.differences (numerators_in exit) w sideW (joined (pos high) low)

-- ---- the same for C: the answer is 0, W or both stand in `misclosures`, and the two words of S or the determinant in `divisor`

abbrev pub FirstPassC : Type 0
FirstPassC =
    (given : FirstGiven) (entry exit : FirstLent) → FirstPassPromise given entry 0 exit
    → (f : Figure) → figure_of given.code given.n ≡ Some f
    → LeastSquares f (vector exit.misclosures) (vector exit.numerators)

abbrev pub HorizonC : Type 0
HorizonC =
    (given : FirstGiven) (entry exit : FirstLent) → FirstPassPromise given entry 0 exit
    → (f : Figure) → figure_of given.code given.n ≡ Some f → (description f).code ≡ 2
    → HorizonCloses f given.angles (vector exit.misclosures) (vector exit.numerators)

abbrev pub SecondPassC : Type 0
SecondPassC =
    (given : SecondGiven) (entry exit : SumsLent) → SecondPassPromise given entry 0 exit
    → (f : Figure) → figure_of given.code given.n ≡ Some f
    → SineCloses f given.entries.differences (numerators_in exit.values) (vector exit.misclosures 0) (vector exit.misclosures 1)
    (joined (pos (get_or exit.divisor 0 0)) (get_or exit.divisor 1 0))

-- ---- a sheet worked from its bytes

abbrev pub FirstSheet : Type 0
FirstSheet =
    (sheet : List ℕ) (worked : WorkedSheet) → worked ≡ worked_of sheet → (f : Figure) → worked.outcome ≡ First f
    → LeastSquares f (vector worked.misclosures) (vector worked.numerators)

abbrev pub SecondSheet : Type 0
SecondSheet =
    (sheet : List ℕ) (worked : WorkedSheet) → worked ≡ worked_of sheet
    → (f : Figure) (w sideW divisor : ℤ) → worked.outcome ≡ Second f w sideW divisor
    → SineCloses f (entries_in sheet).differences (vector worked.numerators) w sideW divisor
