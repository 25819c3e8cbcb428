-- Sheets of the first pass as the definitions answer them: document 01, "Sheets worked through", case 8, and the edges of its ranges;
-- what its first printed sheet gives; those of document 02, M-101, M-102 and M-106; and accepted sheets of codes 2 and 3, whose values
-- were worked out apart from the definitions (tests/independent.py). Assumes nothing.
use Rattle.std.specs.Prelude.{◌≡◌, refl, List, [], ◌∷◌, ◌++◌, map, ℕ, ℤ, pos, neg_ℤ, replicate}
use Rattle.whole.specs.{Lists.listed, Quotient.rounded_quotient, Quotient.nearest, Sums.sum, Sums.dot, Sums.applied}
use Rattle.refusals.specs.{Numbers.Told, Numbers.told, Numbers.verdict_told, Order.answer_of, Order.lowest_place}
use Rattle.figures.specs.{declared.Figure.Figure, Figure.figure_of, Numerators.sum_over, Numerators.condition_sum, Numerators.numerator}
use Rattle.figures.specs.declared.Figure.TheVariants.{Quadrilateral, PointInTriangle, CentralQuadrilateral}
use Rattle.pass_rules.specs.FirstPass.{misclosure, first_numerator, first_rounded, corrected, first_rest, misclosures_of, numerators_of, rounded_of, corrected_of, rests_of, first_rows, first_pass_rows, first_pass_verdict}

abbrev minus : ℕ → ℤ
minus n = neg_ℤ (pos n)

-- ---- what is answered

record Sheet : Type 0 where
  code : ℕ
  n : ℕ
  limit : ℕ
  angles : List ℕ
  rounds : List ℕ
  fixed : List ℕ
  lent : List ℕ
  answer : Told

abbrev sheet : (code n limit : ℕ) → (angles rounds fixed lent : List ℕ) → Told → Sheet
sheet code n limit angles rounds fixed lent answer = record {
  code = code;
  n = n;
  limit = limit;
  angles = angles;
  rounds = rounds;
  fixed = fixed;
  lent = lent;
  answer = answer;
}

-- the lengths of a figure with so many angles, fixed angles and conditions
abbrev lengths_of : (angles fixed conditions : ℕ) → List ℕ
lengths_of a x c = a ∷ a ∷ x ∷ c ∷ a ∷ a ∷ a ∷ a ∷ c ∷ []

-- a sheet of code 1 with its first angle given, the others 45°
abbrev opened : (limit first : ℕ) → Told → Sheet
opened limit first = sheet 1 0 limit (first ∷ replicate 7 1620000) (replicate 8 1) [] (lengths_of 8 0 3)

-- and one that closes, with its rounds given
abbrev observed : (rounds : List ℕ) → Told → Sheet
observed rounds = sheet 1 0 0 (replicate 8 1620000) rounds [] (lengths_of 8 0 3)

-- a sheet of code 1 that closes, with the lengths lent
abbrev lengths_off : List ℕ → Sheet
lengths_off lent = sheet 1 0 0 (replicate 8 1620000) (replicate 8 1) [] lent (told 2 0)

abbrev in_triangle : List ℕ
in_triangle = 4320021 ∷ 1080000 ∷ 1079990 ∷ 4320000 ∷ 1080007 ∷ 1080013 ∷ 4319980 ∷ 1080000 ∷ 1080004 ∷ []

abbrev corners : List ℕ
corners = 2160001 ∷ 2160000 ∷ 2159999 ∷ []

-- a sheet of code 2 with its fixed angles given
abbrev in_three : (fixed : List ℕ) → Told → Sheet
in_three fixed = sheet 2 3 0 in_triangle (replicate 9 1) fixed (lengths_of 9 3 6)

abbrev round_point_lem : List ℕ
round_point_lem =
    3240010 ∷ 1620000 ∷ 1619995 ∷ 3240000 ∷ 1620012 ∷ 1620003 ∷ 3239985 ∷ 1620000 ∷ 1620000 ∷ 3240008 ∷ 1619990 ∷ 1620001 ∷ []

abbrev in_four : (fixed : List ℕ) → Told → Sheet
in_four fixed = sheet 2 4 0 round_point_lem (replicate 12 1) fixed (lengths_of 12 4 8)

abbrev sheets : List Sheet
sheets =
    opened 150 1619850 (told 0 0)
    ∷ opened 150 1619849 (told 6 1)
    ∷ opened 150 1620151 (told 6 1)
    -- L = 0 stands for 90 (M-102)
    ∷ opened 0 1620090 (told 0 0)
    ∷ opened 0 1619910 (told 0 0)
    ∷ opened 0 1620091 (told 6 1)
    ∷ opened 0 1619909 (told 6 1)
    ∷ opened 600 1620600 (told 0 0)
    ∷ opened 601 1620000 (told 3 0)
    ∷ opened 0 0 (told 4 1)
    ∷ opened 0 6480000 (told 4 1)
    -- a correction of −2 to an angle of 1
    ∷ sheet 1 0 0 (1 ∷ 3240003 ∷ replicate 6 1620000) (replicate 8 1) [] (lengths_of 8 0 3) (told 7 1)
    ∷ lengths_off (7 ∷ 8 ∷ 0 ∷ 3 ∷ 8 ∷ 8 ∷ 8 ∷ 8 ∷ 3 ∷ [])
    ∷ lengths_off (8 ∷ 7 ∷ 0 ∷ 3 ∷ 8 ∷ 8 ∷ 8 ∷ 8 ∷ 3 ∷ [])
    ∷ lengths_off (8 ∷ 8 ∷ 1 ∷ 3 ∷ 8 ∷ 8 ∷ 8 ∷ 8 ∷ 3 ∷ [])
    ∷ lengths_off (8 ∷ 8 ∷ 0 ∷ 4 ∷ 8 ∷ 8 ∷ 8 ∷ 8 ∷ 3 ∷ [])
    ∷ lengths_off (8 ∷ 8 ∷ 0 ∷ 3 ∷ 9 ∷ 8 ∷ 8 ∷ 8 ∷ 3 ∷ [])
    ∷ lengths_off (8 ∷ 8 ∷ 0 ∷ 3 ∷ 8 ∷ 7 ∷ 8 ∷ 8 ∷ 3 ∷ [])
    ∷ lengths_off (8 ∷ 8 ∷ 0 ∷ 3 ∷ 8 ∷ 8 ∷ 9 ∷ 8 ∷ 3 ∷ [])
    ∷ lengths_off (8 ∷ 8 ∷ 0 ∷ 3 ∷ 8 ∷ 8 ∷ 8 ∷ 9 ∷ 3 ∷ [])
    ∷ lengths_off (8 ∷ 8 ∷ 0 ∷ 3 ∷ 8 ∷ 8 ∷ 8 ∷ 8 ∷ 2 ∷ [])
    -- rounds of 0 (M-106): at the first angle, at the last, at both; and from the least to the most
    ∷ observed (0 ∷ replicate 7 1) (told 16 1)
    ∷ observed (1 ∷ 1 ∷ 1 ∷ 1 ∷ 1 ∷ 1 ∷ 1 ∷ 0 ∷ []) (told 16 8)
    ∷ observed (0 ∷ 1 ∷ 1 ∷ 1 ∷ 1 ∷ 1 ∷ 1 ∷ 0 ∷ []) (told 16 1)
    ∷ observed (1 ∷ 255 ∷ 2 ∷ 3 ∷ 4 ∷ 5 ∷ 6 ∷ 255 ∷ []) (told 0 0)
    -- 4 comes before 16, 16 before 5, 14 and 6
    ∷ sheet 1 0 0 (replicate 7 1620000 ++ (6480000 ∷ [])) (0 ∷ replicate 7 1) [] (lengths_of 8 0 3) (told 4 8)
    ∷ sheet 2 3 0 in_triangle (replicate 8 1 ++ (0 ∷ [])) (0 ∷ 2160000 ∷ 2159999 ∷ []) (lengths_of 9 3 6) (told 16 9)
    ∷ sheet 2 3 0 in_triangle (replicate 8 1 ++ (0 ∷ [])) (2160002 ∷ 2160000 ∷ 2159999 ∷ []) (lengths_of 9 3 6) (told 16 9)
    ∷ sheet 1 0 0 (1620091 ∷ replicate 7 1620000) (0 ∷ replicate 7 1) [] (lengths_of 8 0 3) (told 16 1)
    ∷ in_three corners (told 0 0)
    ∷ in_four (3240002 ∷ 3239998 ∷ 3240000 ∷ 3240000 ∷ []) (told 0 0)
    -- a tenth over, and a tenth under
    ∷ in_three (2160002 ∷ 2160000 ∷ 2159999 ∷ []) (told 14 0)
    ∷ in_three (2160001 ∷ 2160000 ∷ 2159998 ∷ []) (told 14 0)
    ∷ in_four (3240003 ∷ 3239998 ∷ 3240000 ∷ 3240000 ∷ []) (told 14 0)
    ∷ in_four (3240002 ∷ 3239998 ∷ 3239999 ∷ 3240000 ∷ []) (told 14 0)
    -- 5 comes before 14, and 14 before 6; the same misclosure with the right sum
    ∷ in_three (2160003 ∷ 0 ∷ 2159999 ∷ []) (told 5 2)
    ∷ in_three (2160001 ∷ 2160200 ∷ 2159999 ∷ []) (told 14 0)
    ∷ in_three (2160001 ∷ 2160200 ∷ 2159799 ∷ []) (told 6 5)
    ∷ sheet 3 4 0 round_point_lem (replicate 12 1) [] (lengths_of 12 0 5) (told 0 0)
    ∷ sheet 3 9 0 round_point_lem (replicate 12 1) [] (lengths_of 12 0 5) (told 1 0)
    ∷ []

abbrev answer_to : Sheet → Told
answer_to s = verdict_told (first_pass_verdict s.code s.n s.limit s.angles s.rounds s.fixed s.lent)

answered : map answer_to sheets ≡ map (λ (s : Sheet). s.answer) sheets
unfolding first_pass_verdict first_pass_rows first_rows answer_of lowest_place figure_of listed misclosure first_numerator first_rounded corrected condition_sum sum_over numerator applied dot sum rounded_quotient nearest
answered = refl

-- ---- what accepted sheets give

record Values : Type 0 where
  misclosures : List ℤ
  numerators : List ℤ
  rounded : List ℤ
  results : List ℕ
  rests : List ℤ

abbrev values_of : Figure → (angles fixed : List ℕ) → Values
values_of f angles fixed = record {
  misclosures = misclosures_of f angles fixed;
  numerators = numerators_of f angles fixed;
  rounded = rounded_of f angles fixed;
  results = corrected_of f angles fixed;
  rests = rests_of f angles fixed;
}

-- the first printed sheet of document 01, with M-105: 12/8 and 4/8 are halves
printed_worked : values_of Quadrilateral (1620004 ∷ replicate 7 1620000) [] ≡ record {
  misclosures = pos 4 ∷ replicate 2 (pos 0);
  numerators = minus 12 ∷ minus 12 ∷ minus 4 ∷ minus 4 ∷ pos 4 ∷ pos 4 ∷ minus 4 ∷ minus 4 ∷ [];
  rounded = minus 2 ∷ minus 2 ∷ replicate 6 (pos 0);
  results = 1620002 ∷ 1619998 ∷ replicate 6 1620000;
  rests = replicate 3 (pos 0);
}
unfolding listed misclosure first_numerator first_rounded corrected first_rest condition_sum sum_over numerator applied dot sum rounded_quotient nearest
printed_worked = refl

in_triangle_worked : values_of PointInTriangle in_triangle corners ≡ record {
  misclosures = pos 11 ∷ pos 20 ∷ minus 16 ∷ pos 3 ∷ minus 3 ∷ pos 14 ∷ [];
  numerators = minus 46 ∷ minus 86 ∷ pos 22 ∷ minus 60 ∷ pos 8 ∷ minus 148 ∷ pos 96 ∷ pos 8 ∷ pos 56 ∷ [];
  rounded = minus 5 ∷ minus 9 ∷ pos 2 ∷ minus 6 ∷ pos 1 ∷ minus 15 ∷ pos 10 ∷ pos 1 ∷ pos 6 ∷ [];
  results = 4320016 ∷ 1079991 ∷ 1079992 ∷ 4319994 ∷ 1080008 ∷ 1079998 ∷ 4319990 ∷ 1080001 ∷ 1080010 ∷ [];
  rests = minus 1 ∷ pos 0 ∷ pos 1 ∷ pos 0 ∷ pos 0 ∷ pos 0 ∷ [];
}
unfolding listed misclosure first_numerator first_rounded corrected first_rest condition_sum sum_over numerator applied dot sum rounded_quotient nearest
in_triangle_worked = refl

round_point_worked : values_of CentralQuadrilateral round_point_lem [] ≡ record {
  misclosures = pos 5 ∷ pos 15 ∷ minus 15 ∷ minus 1 ∷ pos 3 ∷ [];
  numerators = minus 50 ∷ minus 35 ∷ minus 35 ∷ minus 130 ∷ minus 115 ∷ minus 115 ∷ pos 110 ∷ pos 125 ∷ pos 125 ∷ minus 2 ∷ pos 13 ∷ pos 13 ∷ [];
  rounded = minus 2 ∷ minus 1 ∷ minus 1 ∷ minus 5 ∷ minus 5 ∷ minus 5 ∷ pos 5 ∷ pos 5 ∷ pos 5 ∷ pos 0 ∷ pos 1 ∷ pos 1 ∷ [];
  results =
      3240008 ∷ 1619999 ∷ 1619994 ∷ 3239995 ∷ 1620007 ∷ 1619998 ∷ 3239990 ∷ 1620005 ∷ 1620005 ∷ 3240008 ∷ 1619991 ∷ 1620002 ∷ [];
  rests = pos 1 ∷ pos 0 ∷ pos 0 ∷ pos 1 ∷ pos 1 ∷ [];
}
unfolding listed misclosure first_numerator first_rounded corrected first_rest condition_sum sum_over numerator applied dot sum rounded_quotient nearest
round_point_worked = refl
