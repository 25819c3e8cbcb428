-- The first pass: document 01, "The two passes", and document 02, M-101 for number 14, M-102 for the default limit and M-106 for the
-- rounds of each angle. Angles and conditions are used by their indices, counted from 0.
use Rattle.refusals.specs.Numbers.{Verdict}
use Rattle.std.specs.Prelude.{ℕ, suc, List, [], ◌∷◌, ◌++◌, ℤ, pos, nat_abs, ◌+ℤ◌, ◌-ℤ◌}
use Rattle.whole.specs.{Lists.listed, Quotient.rounded_quotient}
use Rattle.refusals.specs.{Numbers.numbered, Order.Row, Order.judged, Ranges.most_limit, Ranges.most_rounds}
use Rattle.refusals.specs.Table.{figure_row, lengths_row, limit_or_tolerance_row, angles_row, rounds_row, fixed_row, fixed_sum_row, misclosures_row, results_row}
use Rattle.figures.specs.{declared.Figure.Figure, Figure.Target, Numerators.condition_sum, Numerators.numerator}
use Rattle.figures.specs.Figure.{HalfTurn, FullTurn, FixedAngle, NoCondition}
use Rattle.figures.specs.Figure.{denominator, angle_count, condition_count, fixed_count, target_of, figure_of, figure_names, of_named}
use Rattle.pass_rules.specs.Pass.{in_force, given}

-- the misclosure limit L: 0 stands for the default 90 (document 02, M-102)
abbrev pub limit_of : ℕ → ℕ
limit_of = in_force 90

-- what the angles of a condition should sum to, in tenths: 180°, 360°, or a fixed angle
abbrev pub should_be : Target → (fixed : List ℕ) → ℤ
should_be HalfTurn fixed = pos 6480000
should_be FullTurn fixed = pos 12960000
should_be (FixedAngle j) fixed = pos (numbered fixed j 0)
should_be NoCondition fixed = pos 0

-- a misclosure is the observed sum minus what it should be
unfoldable pub misclosure : Figure → (angles fixed : List ℕ) → ℕ → ℤ
misclosure f angles fixed j = condition_sum f (given angles) j -ℤ should_be (target_of f (suc j)) fixed

-- the numerator of an angle is its row applied to the misclosures; the exact correction is numerator / D
unfoldable pub first_numerator : Figure → (angles fixed : List ℕ) → ℕ → ℤ
first_numerator f angles fixed i = numerator f (misclosure f angles fixed) i

-- rounded: nearest tenth
unfoldable pub first_rounded : Figure → (angles fixed : List ℕ) → ℕ → ℤ
first_rounded f angles fixed i = rounded_quotient (first_numerator f angles fixed i) (denominator f)

-- the corrected angle is observed plus rounded
unfoldable pub corrected : Figure → (angles fixed : List ℕ) → ℕ → ℤ
corrected f angles fixed i = given angles i +ℤ first_rounded f angles fixed i

-- the rest of a condition is its misclosure plus the rounded corrections in it
unfoldable pub first_rest : Figure → (angles fixed : List ℕ) → ℕ → ℤ
first_rest f angles fixed j = misclosure f angles fixed j +ℤ condition_sum f (first_rounded f angles fixed) j

-- ---- what is stored, in the order of the numbers of conditions and angles

abbrev pub misclosures_of : Figure → (angles fixed : List ℕ) → List ℤ
misclosures_of f angles fixed = listed (condition_count f) (misclosure f angles fixed)

abbrev pub numerators_of : Figure → (angles fixed : List ℕ) → List ℤ
numerators_of f angles fixed = listed (angle_count f) (first_numerator f angles fixed)

abbrev pub rounded_of : Figure → (angles fixed : List ℕ) → List ℤ
rounded_of f angles fixed = listed (angle_count f) (first_rounded f angles fixed)

-- a corrected angle that is stored is within range, so it is its own magnitude
abbrev pub corrected_of : Figure → (angles fixed : List ℕ) → List ℕ
corrected_of f angles fixed = listed (angle_count f) (λ i. nat_abs (corrected f angles fixed i))

abbrev pub rests_of : Figure → (angles fixed : List ℕ) → List ℤ
rests_of f angles fixed = listed (condition_count f) (first_rest f angles fixed)

-- ---- the order: 1, 2, 3, 4, 16, 5, 14, 6, 7

-- number 2: the lengths of misclosures, numerators, rounded corrections, corrected angles, their rounds, and rests
abbrev pub first_result_lengths : Figure → List ℕ
first_result_lengths f = condition_count f ∷ angle_count f ∷ angle_count f ∷ angle_count f ∷ angle_count f ∷ condition_count f ∷ []

-- and before them those of angles, their rounds, and fixed angles
abbrev pub first_lengths : Figure → List ℕ
first_lengths f = angle_count f ∷ angle_count f ∷ fixed_count f ∷ first_result_lengths f

-- 2, 3, 4, 16, 5, 14: what can be said before any work
abbrev pub given_rows : Figure → (limit : ℕ) → (angles rounds fixed lent : List ℕ) → List Row
given_rows f limit angles rounds fixed lent =
    lengths_row lent (first_lengths f)
    ∷ limit_or_tolerance_row most_limit limit
    ∷ angles_row angles
    ∷ rounds_row most_rounds rounds
    ∷ fixed_row fixed
    ∷ fixed_sum_row fixed
    ∷ []

-- 6 and 7: what the work says
abbrev pub work_rows : (limit : ℕ) → (misclosures corrected : List ℤ) → List Row
work_rows limit misclosures corrected = misclosures_row (limit_of limit) misclosures ∷ results_row corrected ∷ []

-- of a figure: 2, 3, 4, 16, 5, 14, 6, 7
unfoldable pub first_rows : Figure → (limit : ℕ) → (angles rounds fixed lent : List ℕ) → List Row
first_rows f limit angles rounds fixed lent =
    given_rows f limit angles rounds fixed lent
    ++ work_rows limit (misclosures_of f angles fixed) (listed (angle_count f) (corrected f angles fixed))

-- 1, and then those of the figure that code and n name
unfoldable pub first_pass_rows : (code n limit : ℕ) → (angles rounds fixed lent : List ℕ) → List Row
first_pass_rows code n limit angles rounds fixed lent =
    figure_row code n figure_names ∷ of_named (figure_of code n) [] (λ f. first_rows f limit angles rounds fixed lent)

unfoldable pub first_pass_verdict : (code n limit : ℕ) → (angles rounds fixed lent : List ℕ) → Verdict
first_pass_verdict code n limit angles rounds fixed lent = judged (first_pass_rows code n limit angles rounds fixed lent)
