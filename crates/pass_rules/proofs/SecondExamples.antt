-- Sheets of the second pass as the definitions answer them: document 01, "Sheets worked through", case 9 and its printed sheet of kind 2,
-- and the edges of the ranges; halves; and accepted sheets of codes 2 and 3, whose values were worked out apart from the definitions
-- (tests/independent.py). Assumes nothing.
use Rattle.std.specs.Prelude.{Err}
use Rattle.pass_rules.specs.SecondPass.{SecondAnswer, done_with}
use Rattle.std.specs.Prelude.{◌≡◌, refl, List, [], ◌∷◌, ◌++◌, map, ℕ, zero, suc, ◌+◌, replicate, ℤ, pos, neg_ℤ}
use Rattle.whole.specs.{Lists.listed, Quotient.nearest, Quotient.rounded_quotient, Sums.sum, Sums.dot, Sums.applied}
use Rattle.refusals.specs.{declared.Refusal.Refusal, Order.answer_of, Order.lowest_place}
use Rattle.figures.specs.{declared.Figure.Figure, Figure.angle_count, Figure.figure_of}
use Rattle.figures.specs.declared.Figure.TheVariants.{Quadrilateral, PointInTriangle, CentralQuadrilateral}
use Rattle.figures.specs.Numerators.{condition_sum, sum_over, numerator, reduced_coefficient}
use Rattle.pass_rules.specs.SecondPass.{SineEntries, sine_entries, signed_in, reduced_in, misclosure_in, difference_squares_in, sum_of_squares, side_squares, shared_products, divisor, second_numerator, second_rounded, second_adjusted, second_rest, reduced_of, second_rounded_of, adjusted_of, second_rests_of, second_rows, second_pass_rows, second_pass_verdict, second_pass_answer}
use Rattle.pass_rules.proofs.StarredCases.{differences-6}

abbrev minus : ℕ → ℤ
minus n = neg_ℤ (pos n)

-- ---- what is answered

-- a sheet of a figure with so many angles and conditions, its lengths right
record Sheet : Type 0 where
  code : ℕ
  n : ℕ
  counts : List ℕ
  tolerance : ℕ
  angles : List ℕ
  rounds : List ℕ
  entries : SineEntries

abbrev sheet : (code n : ℕ) → (counts : List ℕ) → (tolerance : ℕ) → (angles rounds log_sines : List ℕ) → (differences : List ℤ) → Sheet
sheet code n counts tolerance angles rounds log_sines differences = record {
  code = code;
  n = n;
  counts = counts;
  tolerance = tolerance;
  angles = angles;
  rounds = rounds;
  entries = sine_entries log_sines differences [];
}

abbrev lengths_of : (angles conditions : ℕ) → List ℕ
lengths_of a c = a ∷ a ∷ a ∷ a ∷ 0 ∷ a ∷ 0 ∷ a ∷ a ∷ a ∷ a ∷ a ∷ c ∷ []

abbrev quadrilateral : (tolerance first : ℕ) → (differences : List ℤ) → Sheet
quadrilateral tolerance first = sheet 1 0 (lengths_of 8 3) tolerance (first ∷ replicate 7 1620000) (replicate 8 1) (98494950 ∷ replicate 7 98494850)

-- code 3, n = 8, the most angles, with the same c, l and r in each triangle
abbrev triangles : {A : Type 0} → ℕ → A → A → A → List A
triangles zero c l r = []
triangles (suc k) c l r = c ∷ l ∷ r ∷ triangles k c l r

abbrev octagon : (log_sines : List ℕ) → (differences : List ℤ) → Sheet
octagon = sheet 3 8 (lengths_of 24 9) 50 (replicate 24 2160000) (replicate 24 1)

-- the printed sheet with its last angle, its rounds and its first log-sine given
abbrev observed : (last : ℕ) → (rounds : List ℕ) → (log_sine : ℕ) → Sheet
observed last rounds log_sine =
    sheet 1 0 (lengths_of 8 3) 0 (replicate 7 1620000 ++ (last ∷ [])) rounds (log_sine ∷ replicate 7 98494850) differences-6

abbrev printed : Sheet
printed = quadrilateral 0 1620000 differences-6

abbrev in_triangle : Sheet
in_triangle =
    sheet 2 3 (lengths_of 9 6) 0 (triangles 3 4320000 1080000 1080000) (replicate 9 1)
    (99375306 ∷ 96989700 ∷ 96990000 ∷ 99375306 ∷ 96989700 ∷ 96989650 ∷ 99375306 ∷ 96989800 ∷ 96989700 ∷ [])
    (minus 122 ∷ pos 365 ∷ pos 410 ∷ minus 121 ∷ pos 240 ∷ pos 365 ∷ minus 120 ∷ pos 367 ∷ pos 505 ∷ [])

abbrev round_point_lem : Sheet
round_point_lem =
    sheet 3 4 (lengths_of 12 5) 0 (triangles 4 3240000 1620000 1620000) (replicate 12 1)
    (100000000 ∷ 98494850 ∷ 98494900 ∷ 99999999 ∷ 98494850 ∷ 98494800 ∷ 100000000 ∷ 98494950 ∷ 98494850 ∷ 100000000 ∷ 98494850 ∷ 98494870 ∷ [])
    (pos 0 ∷ pos 211 ∷ pos 160 ∷ pos 1 ∷ pos 312 ∷ pos 209 ∷ pos 0 ∷ pos 210 ∷ pos 85 ∷ minus 1 ∷ pos 208 ∷ pos 413 ∷ [])

record Answered : Type 0 where
  given : Sheet
  answer : SecondAnswer

abbrev gives : Sheet → SecondAnswer → Answered
gives given answer = record { given = given; answer = answer }

abbrev sheets : List Answered
sheets = gives printed (done_with (pos 100) (pos 0) 0 24315176)
    -- case 9: all differences 0, with W 100 and with W 0
    ∷ gives (quadrilateral 10 1620000 (replicate 8 (pos 0))) (Err Refusal.SumOfSquaresIsZero)
    ∷ gives (sheet 1 0 (lengths_of 8 3) 10 (replicate 8 1620000) (replicate 8 1) (replicate 8 98494850) (replicate 8 (pos 0))) (Err Refusal.SumOfSquaresIsZero)
    ∷ gives (quadrilateral 51 1620000 differences-6) (Err Refusal.LimitOrToleranceOutOfRange)
    -- rounds of 0 (M-106): at the first angle, and at the last; 4 comes before 16, and 16 before 8; and from the least to the most
    ∷ gives (observed 1620000 (0 ∷ replicate 7 1) 98494950) (Err (Refusal.RoundsOutOfRange 1))
    ∷ gives (observed 1620000 (replicate 7 1 ++ (0 ∷ [])) 98494950) (Err (Refusal.RoundsOutOfRange 8))
    ∷ gives (observed 0 (0 ∷ replicate 7 1) 98494950) (Err (Refusal.AngleOutOfRange 8))
    ∷ gives (observed 1620000 (replicate 7 1 ++ (0 ∷ [])) 0) (Err (Refusal.RoundsOutOfRange 8))
    ∷ gives (observed 1620000 (1 ∷ 255 ∷ 2 ∷ 3 ∷ 4 ∷ 5 ∷ 6 ∷ 255 ∷ []) 98494950) (done_with (pos 100) (pos 0) 0 24315176)
    -- a correction of −7 to an angle of 8, and of 7
    ∷ gives (quadrilateral 0 8 differences-6) (done_with (pos 100) (pos 0) 0 24315176)
    ∷ gives (quadrilateral 0 7 differences-6) (Err (Refusal.ResultOutOfRange 1))
    ∷ gives in_triangle (done_with (minus 150) (pos 0) 0 85019520)
    ∷ gives round_point_lem (done_with (pos 80) (pos 0) 0 260614560)
    -- the largest W on either side, with the largest differences and tolerance
    ∷ gives (octagon (triangles 8 1 100000000 1) (triangles 8 (pos 0) (pos 9999) (pos 9999))) (Err Refusal.SineMisclosureBeyondTolerance)
    ∷ gives (octagon (triangles 8 1 1 100000000) (triangles 8 (pos 0) (pos 9999) (pos 9999))) (Err Refusal.SineMisclosureBeyondTolerance)
    -- the same W where the linear conditions already fix what d measures, so that each A is 0
    ∷ gives (octagon (triangles 8 1 100000000 1) (triangles 8 (pos 0) (pos 9999) (minus 9999))) (Err Refusal.SumOfSquaresIsZero)
    -- a difference past its range at an angle with sign 0, the first of the second triangle
    ∷ gives (octagon (replicate 24 98494850) (pos 0 ∷ pos 1 ∷ pos 1 ∷ pos 10000 ∷ replicate 20 (pos 1))) (Err (Refusal.SineEntryOutOfRange 4))
    ∷ []

abbrev answer_to : Sheet → SecondAnswer
answer_to s = second_pass_answer s.code s.n s.tolerance s.angles s.rounds s.entries s.counts

answered : map (λ (a : Answered). answer_to a.given) sheets ≡ map (λ (a : Answered). a.answer) sheets
unfolding second_pass_answer second_pass_verdict second_pass_rows figure_of second_rows answer_of lowest_place listed misclosure_in sum_of_squares side_squares shared_products divisor difference_squares_in signed_in reduced_in second_numerator second_rounded second_adjusted reduced_coefficient numerator condition_sum sum_over applied dot sum rounded_quotient nearest
answered = refl

-- ---- what the accepted sheets give

record Values : Type 0 where
  reduced : List ℤ
  numerators : List ℤ
  rounded : List ℤ
  results : List ℕ
  rests : List ℤ

abbrev values_of : Figure → Sheet → Values
values_of f s = record {
  reduced = reduced_of f s.entries;
  numerators = listed (angle_count f) (second_numerator f s.entries);
  rounded = second_rounded_of f s.entries;
  results = adjusted_of f s.angles s.entries;
  rests = second_rests_of f s.entries;
}

printed_worked : values_of Quadrilateral printed ≡ record {
  reduced = pos 2049 ∷ minus 1703 ∷ pos 1483 ∷ minus 1829 ∷ pos 1977 ∷ minus 1631 ∷ pos 1415 ∷ minus 1761 ∷ [];
  numerators =
      minus 163920000 ∷ pos 136240000 ∷ minus 118640000 ∷ pos 146320000 ∷ minus 158160000 ∷ pos 130480000 ∷ minus 113200000 ∷ pos 140880000 ∷ [];
  rounded = minus 7 ∷ pos 6 ∷ minus 5 ∷ pos 6 ∷ minus 7 ∷ pos 5 ∷ minus 5 ∷ pos 6 ∷ [];
  results = 1619993 ∷ 1620006 ∷ 1619995 ∷ 1620006 ∷ 1619993 ∷ 1620005 ∷ 1619995 ∷ 1620006 ∷ [];
  rests = pos 0 ∷ minus 1 ∷ minus 1 ∷ [];
}
unfolding listed misclosure_in sum_of_squares side_squares shared_products divisor signed_in reduced_in second_numerator second_rounded second_adjusted second_rest reduced_coefficient numerator condition_sum sum_over applied dot sum rounded_quotient nearest
printed_worked = refl

-- Halves, M-105. With differences of 100 each A is D·d, so that W is cancelled by W / 8 at each angle: 1/2, 3/2 and 5/2, the sign of d
-- turned.
abbrev evenly : ℕ → SineEntries
evenly w = sine_entries ((98494850 + w) ∷ replicate 7 98494850) (replicate 8 (pos 100)) []

abbrev turned : ℕ → List ℤ
turned v = minus v ∷ pos v ∷ minus v ∷ pos v ∷ minus v ∷ pos v ∷ minus v ∷ pos v ∷ []

halves_worked : map (λ (w : ℕ). second_rounded_of Quadrilateral (evenly w)) (4 ∷ 12 ∷ 20 ∷ []) ≡ turned 0 ∷ turned 2 ∷ turned 2 ∷ []
unfolding listed misclosure_in sum_of_squares side_squares shared_products divisor signed_in reduced_in second_numerator second_rounded reduced_coefficient numerator condition_sum sum_over applied dot sum rounded_quotient nearest
halves_worked = refl

in_triangle_worked : values_of PointInTriangle in_triangle ≡ record {
  reduced = minus 440 ∷ pos 3992 ∷ minus 3552 ∷ pos 164 ∷ pos 3552 ∷ minus 3716 ∷ pos 276 ∷ pos 3716 ∷ minus 3992 ∷ [];
  numerators =
      minus 66000000 ∷ pos 598800000 ∷ minus 532800000 ∷ pos 24600000 ∷ pos 532800000 ∷ minus 557400000 ∷ pos 41400000 ∷ pos 557400000 ∷ minus 598800000 ∷ [];
  rounded = minus 1 ∷ pos 7 ∷ minus 6 ∷ pos 0 ∷ pos 6 ∷ minus 7 ∷ pos 0 ∷ pos 7 ∷ minus 7 ∷ [];
  results = 4319999 ∷ 1080007 ∷ 1079994 ∷ 4320000 ∷ 1080006 ∷ 1079993 ∷ 4320000 ∷ 1080007 ∷ 1079993 ∷ [];
  rests = pos 0 ∷ minus 1 ∷ pos 0 ∷ pos 0 ∷ pos 0 ∷ pos 0 ∷ [];
}
unfolding listed misclosure_in sum_of_squares side_squares shared_products divisor signed_in reduced_in second_numerator second_rounded second_adjusted second_rest reduced_coefficient numerator condition_sum sum_over applied dot sum rounded_quotient nearest
in_triangle_worked = refl

round_point_worked : values_of CentralQuadrilateral round_point_lem ≡ record {
  reduced =
      minus 260 ∷ pos 4582 ∷ minus 4322 ∷ minus 676 ∷ pos 6590 ∷ minus 5914 ∷ minus 852 ∷ pos 3966 ∷ minus 3114 ∷ pos 1788 ∷ pos 6558 ∷ minus 8346 ∷ [];
  numerators =
      pos 49920000 ∷ minus 879744000 ∷ pos 829824000 ∷ pos 129792000 ∷ minus 1265280000 ∷ pos 1135488000
      ∷ pos 163584000 ∷ minus 761472000 ∷ pos 597888000 ∷ minus 343296000 ∷ minus 1259136000 ∷ pos 1602432000 ∷ [];
  rounded = pos 0 ∷ minus 3 ∷ pos 3 ∷ pos 0 ∷ minus 5 ∷ pos 4 ∷ pos 1 ∷ minus 3 ∷ pos 2 ∷ minus 1 ∷ minus 5 ∷ pos 6 ∷ [];
  results =
      3240000 ∷ 1619997 ∷ 1620003 ∷ 3240000 ∷ 1619995 ∷ 1620004 ∷ 3240001 ∷ 1619997 ∷ 1620002 ∷ 3239999 ∷ 1619995 ∷ 1620006 ∷ [];
  rests = pos 0 ∷ minus 1 ∷ pos 0 ∷ pos 0 ∷ pos 0 ∷ [];
}
unfolding listed misclosure_in sum_of_squares side_squares shared_products divisor signed_in reduced_in second_numerator second_rounded second_adjusted second_rest reduced_coefficient numerator condition_sum sum_over applied dot sum rounded_quotient nearest
round_point_worked = refl
