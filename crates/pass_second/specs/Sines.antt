-- The sums of a sine condition, by the signs of its angles, and of both, as the code answers them.
use Rattle.std.specs.Prelude.{ℕ, cond, List, ℤ, pos, ◌+ℤ◌, ◌-ℤ◌, ◌*ℤ◌}
use Rattle.whole.specs.{Lists.listed, Sums.dot, Sums.squares, Sums.vector}
use Rattle.pass_pair.specs.declared.Pair.{Pair}
use Rattle.figures.specs.{declared.Figure.Figure, Figure.angle_count, Figure.pole, Figure.side, Figure.has_side}
use Rattle.figures.specs.Numerators.{reduced_coefficient}
use Rattle.pass_rules.specs.Pass.{given}
use Rattle.pass_rules.specs.SecondPass.{SineEntries, sine_misclosure, side_misclosure, sum_of_squares, shared_products, side_squares, difference_squares_in}
use Rattle.pass_second.specs.{declared.sines.Sines.Sines, declared.sines.SignedSums.SignedSums, declared.sums.Sums.Sums}

-- a difference with its sign
abbrev pub signed_by : (signs differences : List ℤ) → ℕ → ℤ
signed_by signs differences i = vector signs i *ℤ vector differences i

abbrev pub signed_sums_of : (signs : List ℤ) → (log_sines : List ℕ) → (differences : List ℤ) → (n : ℕ) → SignedSums
signed_sums_of signs log_sines differences n = record {
  misclosure = dot n (vector signs) (given log_sines);
  difference_squares = squares n (signed_by signs differences);
}

-- D·d and what is taken, which is the numerator for the conditions' sums of d
abbrev pub reduced_from : (denominator : ℕ) → (d taken : List ℤ) → ℕ → ℤ
reduced_from denominator d taken i = pos denominator *ℤ vector d i +ℤ vector taken i

abbrev pub sines_by : Figure → (signs : List ℤ) → (log_sines : List ℕ) → (differences : List ℤ) → Sines
sines_by f signs log_sines differences = record {
  misclosure = dot (angle_count f) (vector signs) (given log_sines);
  squares = squares (angle_count f) (reduced_coefficient f (signed_by signs differences));
  difference_squares = squares (angle_count f) (signed_by signs differences);
}

abbrev pub reduced_by : Figure → (signs differences : List ℤ) → List ℤ
reduced_by f signs differences = listed (angle_count f) (reduced_coefficient f (signed_by signs differences))

-- ---- of both conditions

abbrev pub pair_from : (aa ab bb wa wb : ℤ) → Pair
pair_from aa ab bb wa wb = record { aa = aa; ab = ab; bb = bb; wa = wa; wb = wb }

abbrev pub sums_from : Pair → (differenceSquares sideDifferenceSquares : ℤ) → Sums
sums_from pair differenceSquares sideDifferenceSquares = record {
  pair = pair;
  difference_squares = differenceSquares;
  side_difference_squares = sideDifferenceSquares;
}

abbrev pub alone_of : Sines → Sums
alone_of pole = sums_from (pair_from pole.squares (pos 0) (pos 0) pole.misclosure (pos 0)) pole.difference_squares (pos 0)

abbrev pub together_of : (pole side : Sines) → (shared side_misclosure : ℤ) → Sums
together_of pole side shared side_misclosure =
    sums_from (pair_from pole.squares shared side.squares pole.misclosure side_misclosure) pole.difference_squares side.difference_squares

-- the misclosure of the side condition, from its log-sines: log side 1 with +, log side 4, the second of the two, with −
abbrev pub with_sides : ℤ → (log_sides : List ℕ) → ℤ
with_sides ofAngles log_sides = ofAngles +ℤ (given log_sides 0 -ℤ given log_sides 1)

-- of a figure: a sum with B is 0 where it has none
abbrev pub pair_of : Figure → SineEntries → Pair
pair_of f e =
    pair_from (sum_of_squares f e) (cond (has_side f) (shared_products f e) (pos 0)) (cond (has_side f) (side_squares f e) (pos 0)) (sine_misclosure f e) (side_misclosure f e)

abbrev pub sums_of : Figure → SineEntries → Sums
sums_of f e = sums_from (pair_of f e) (difference_squares_in f (pole f) e) (difference_squares_in f (side f) e)
