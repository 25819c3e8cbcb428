-- The numerators of a figure's exact corrections, and its tables as the code holds them.
use Rattle.std.specs.Prelude.{ℕ, zero, suc, List, [], ◌∷◌, map, ℤ, pos, ◌+ℤ◌, ◌*ℤ◌}
use Rattle.whole.specs.{Lists.padded, Sums.applied, Sums.table}
use Rattle.figures.specs.declared.Figure.{Figure}
use Rattle.figures.specs.Figure.{description, denominator, condition_count, members_of, horizon}

-- the sum of x over the angles of a condition; x, and the condition, by the index, counted from 0
unfoldable pub sum_over : List ℕ → (ℕ → ℤ) → ℤ
sum_over [] x = pos 0
sum_over (zero ∷ others) x = sum_over others x
sum_over (suc i ∷ others) x = x i +ℤ sum_over others x

unfoldable pub condition_sum : Figure → (ℕ → ℤ) → ℕ → ℤ
condition_sum f x j = sum_over (members_of f (suc j)) x

-- the sum of x over the angles at the inner point, of code 2 or 3
abbrev pub horizon_sum : Figure → (ℕ → ℤ) → ℤ
horizon_sum f x = sum_over (horizon (description f).n).angles x

-- document 01, "The two passes": the numerator of an angle is its row applied to the misclosures (both by the index, counted from 0)
unfoldable pub numerator : Figure → (ℕ → ℤ) → ℕ → ℤ
numerator f w i = applied (condition_count f) (table (description f).rows) w i

-- document 01, "The two passes", second pass: D·d plus the first-pass numerator for misclosures equal to each condition's sum of d
unfoldable pub reduced_coefficient : Figure → (ℕ → ℤ) → ℕ → ℤ
reduced_coefficient f d i = pos (denominator f) *ℤ d i +ℤ numerator f (condition_sum f d) i

-- no figure has more conditions, more angles, more angles in a condition, more fixed angles, or more known sides
abbrev pub most_conditions : ℕ
most_conditions = 9

abbrev pub most_angles : ℕ
most_angles = 24

abbrev pub most_members : ℕ
most_members = 8

abbrev pub most_fixed : ℕ
most_fixed = 4

abbrev pub most_sides : ℕ
most_sides = 2

-- the natural table brought to one size, filled with 0
abbrev pub padded_rows : Figure → List (List ℤ)
padded_rows f = padded most_angles (padded most_conditions (pos 0) []) (map (padded most_conditions (pos 0)) (description f).rows)
