-- The starred cases of document 01, "Sheets worked through", in one table under one statement: what the definitions give that the passes
-- promise is what the document states. Assumes nothing.
use Rattle.std.specs.Prelude.{◌≡◌, refl, List, [], ◌∷◌, map, ℕ, ℤ, pos, neg_ℤ, replicate}
use Rattle.whole.specs.{Lists.listed, Quotient.nearest, Quotient.rounded_quotient, Sums.sum, Sums.dot, Sums.applied}
use Rattle.refusals.specs.{Numbers.verdict_told, Order.verdict_of, Table.sine_misclosure_row}
use Rattle.figures.specs.declared.Figure.TheVariants.{Quadrilateral, PointInTriangle, CentralTriangle}
use Rattle.figures.specs.Figure.{denominator, pole}
use Rattle.figures.specs.Numerators.{condition_sum, sum_over, numerator, reduced_coefficient}
use Rattle.pass_rules.specs.FirstPass.{misclosure, first_numerator, first_rounded, first_rest, misclosures_of, numerators_of, rounded_of, rests_of}
use Rattle.pass_rules.specs.SecondPass.{SineEntries, sine_entries, tolerance_of, signed_in, reduced_in, sum_of_squares, side_squares, shared_products, divisor, difference_squares_in, reduced_of}

abbrev minus : ℕ → ℤ
minus n = neg_ℤ (pos n)

-- ---- sheets that have the misclosures of cases 1 to 4

-- code 1: 45° each, but for what opens the conditions
abbrev angles-1 : List ℕ
angles-1 = 1620038 ∷ 1620000 ∷ 1620000 ∷ 1620000 ∷ 1619995 ∷ 1620000 ∷ 1619960 ∷ 1620000 ∷ []

abbrev angles-2 : List ℕ
angles-2 = replicate 8 1620000

-- codes 2 and 3: 120° at the inner point and 30° at the corners of each triangle, 60° at each corner
abbrev angles-3 : List ℕ
angles-3 = 4320010 ∷ 1080000 ∷ 1080000 ∷ 4320000 ∷ 1080000 ∷ 1080000 ∷ 4320000 ∷ 1080000 ∷ 1080000 ∷ []

abbrev fixed-3 : List ℕ
fixed-3 = replicate 3 2160000

abbrev angles-4 : List ℕ
angles-4 = 4320000 ∷ 1080006 ∷ 1080000 ∷ 4320000 ∷ 1080000 ∷ 1080000 ∷ 4320000 ∷ 1080000 ∷ 1080000 ∷ []

-- the differences whose signed values are those of case 6
abbrev pub differences-6 : List ℤ
differences-6 = pos 300 ∷ pos 169 ∷ pos 143 ∷ pos 271 ∷ pos 203 ∷ pos 248 ∷ pos 219 ∷ pos 178 ∷ []

abbrev entries-6 : SineEntries
entries-6 = sine_entries [] differences-6 []

-- case 7: the number that row 9 gives for a W with these differences and e = 10, 0 where it passes
abbrev number_nine : ℤ → ℤ
number_nine w = pos (verdict_told (verdict_of (sine_misclosure_row (tolerance_of 10) w (difference_squares_in Quadrilateral (pole Quadrilateral) entries-6)))).number

-- ---- the table

-- a case of the document: what the definitions give, and what the document states
pub record Worked : Type 0 where
  pub case : ℕ
  pub computed : List ℤ
  pub stated : List ℤ

abbrev worked : ℕ → List ℤ → List ℤ → Worked
worked case computed stated = record { case = case; computed = computed; stated = stated }

abbrev pub starred_cases : List Worked
starred_cases =
    worked 1 (misclosures_of Quadrilateral angles-1 []) (pos 38 ∷ minus 5 ∷ minus 45 ∷ [])
    ∷ worked 1 (numerators_of Quadrilateral angles-1 []) (minus 79 ∷ minus 79 ∷ minus 73 ∷ minus 73 ∷ pos 93 ∷ pos 93 ∷ pos 87 ∷ pos 87 ∷ [])
    ∷ worked 1 (rounded_of Quadrilateral angles-1 []) (minus 10 ∷ minus 10 ∷ minus 9 ∷ minus 9 ∷ pos 12 ∷ pos 12 ∷ pos 11 ∷ pos 11 ∷ [])
    ∷ worked 1 (rests_of Quadrilateral angles-1 []) (pos 0 ∷ pos 1 ∷ pos 1 ∷ [])
    ∷ worked 2 (misclosures_of Quadrilateral angles-2 []) (replicate 3 (pos 0))
    ∷ worked 2 (numerators_of Quadrilateral angles-2 []) (replicate 8 (pos 0))
    ∷ worked 2 (rounded_of Quadrilateral angles-2 []) (replicate 8 (pos 0))
    ∷ worked 2 (rests_of Quadrilateral angles-2 []) (replicate 3 (pos 0))
    ∷ worked 3 (misclosures_of PointInTriangle angles-3 fixed-3) (pos 10 ∷ replicate 5 (pos 0))
    ∷ worked 3 (numerators_of PointInTriangle angles-3 fixed-3)
    (minus 60 ∷ minus 20 ∷ minus 20 ∷ minus 20 ∷ pos 20 ∷ pos 0 ∷ minus 20 ∷ pos 0 ∷ pos 20 ∷ [])
    ∷ worked 4 (misclosures_of CentralTriangle angles-4 []) (pos 6 ∷ replicate 3 (pos 0))
    ∷ worked 4 (numerators_of CentralTriangle angles-4 [])
    (minus 24 ∷ minus 42 ∷ minus 42 ∷ pos 12 ∷ minus 6 ∷ minus 6 ∷ pos 12 ∷ minus 6 ∷ minus 6 ∷ [])
    ∷ worked 4 (pos (denominator CentralTriangle) ∷ []) (pos 18 ∷ [])
    -- as M-105 has it
    ∷ worked 5 (rounded_quotient (minus 12) 8 ∷ rounded_quotient (pos 4) 8 ∷ rounded_quotient (minus 4) 8 ∷ rounded_quotient (minus 42) 18 ∷ [])
    (minus 2 ∷ pos 0 ∷ pos 0 ∷ minus 2 ∷ [])
    ∷ worked 6 (listed 8 (signed_in (pole Quadrilateral) entries-6))
    (pos 300 ∷ minus 169 ∷ pos 143 ∷ minus 271 ∷ pos 203 ∷ minus 248 ∷ pos 219 ∷ minus 178 ∷ [])
    ∷ worked 6 (reduced_of Quadrilateral entries-6)
    (pos 2049 ∷ minus 1703 ∷ pos 1483 ∷ minus 1829 ∷ pos 1977 ∷ minus 1631 ∷ pos 1415 ∷ minus 1761 ∷ [])
    ∷ worked 6 (divisor Quadrilateral entries-6 ∷ []) (pos 24315176 ∷ [])
    ∷ worked 7 (map number_nine (pos 628 ∷ pos 629 ∷ [])) (pos 0 ∷ pos 9 ∷ [])
    ∷ []

pub starred_cases_lem : map (λ (c : Worked). c.computed) starred_cases ≡ map (λ (c : Worked). c.stated) starred_cases
unfolding listed misclosure first_numerator first_rounded first_rest signed_in reduced_in sum_of_squares side_squares shared_products divisor difference_squares_in reduced_coefficient numerator condition_sum sum_over applied dot sum rounded_quotient nearest
starred_cases_lem = refl
