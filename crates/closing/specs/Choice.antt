-- Which whole tenth is chosen for each angle: document 02, M-104. An angle is the difference of two directions. A figure's angles are
-- laid off one from another, the exact corrections with them, and the directions are rounded downwards, not the angles. Angles and
-- conditions by their index, counted from 0, but for `starts_at`, which has the numbers of the figure.
use Rattle.std.specs.Prelude.{ℕ, zero, suc, ◌-◌, List, [], ◌∷◌, ℤ, ◌-ℤ◌, get_or}
use Rattle.figures.specs.{declared.Figure.Figure, Figure.denominator, Figure.angle_count, Figure.inner, Figure.left, Figure.right}
use Rattle.figures.specs.declared.Figure.TheVariants.{Quadrilateral, PointInTriangle, PointInQuadrilateral, CentralTriangle, CentralQuadrilateral, CentralPentagon, CentralHexagon, CentralHeptagon, CentralOctagon}
use Rattle.figures.specs.{Numerators.sum_over, Numerators.numerator, Rows.each_of}
use Rattle.closing.specs.Floor.{floor_quotient}

-- ---- at whose end each angle starts: the number of an angle, and 0 for the first direction

-- code 1: one after another
abbrev pub one_after_another : (count : ℕ) → List ℕ
one_after_another count = each_of count (λ i. (i - 1) ∷ [])

-- code 2: of each triangle the last angle starts at the first direction, the angle at the inner point at its end, the second at the end
-- of that
abbrev pub from_the_corners : (n : ℕ) → List ℕ
from_the_corners n = each_of n (λ i. right i ∷ inner i ∷ 0 ∷ [])

-- code 3: the angles at the inner point one after another; of each triangle the second angle starts at the end of that, and the last at
-- its end
abbrev pub round_the_point : (n : ℕ) → List ℕ
round_the_point n = each_of n (λ i. inner (i - 1) ∷ inner i ∷ left i ∷ [])

abbrev pub starts_at : Figure → List ℕ
starts_at Quadrilateral = one_after_another 8
starts_at PointInTriangle = from_the_corners 3
starts_at PointInQuadrilateral = from_the_corners 4
starts_at CentralTriangle = round_the_point 3
starts_at CentralQuadrilateral = round_the_point 4
starts_at CentralPentagon = round_the_point 5
starts_at CentralHexagon = round_the_point 6
starts_at CentralHeptagon = round_the_point 7
starts_at CentralOctagon = round_the_point 8

-- the angles that are laid off up to the end of one, that one first; no figure has more than its count of angles
abbrev pub chain : (starts : List ℕ) → (steps : ℕ) → (angle : ℕ) → List ℕ
chain starts zero angle = []
chain starts (suc steps) zero = []
chain starts (suc steps) (suc i) = suc i ∷ chain starts steps (get_or starts i 0)

-- the angles before the one of index i, and with it
abbrev pub before : Figure → ℕ → List ℕ
before f i = chain (starts_at f) (angle_count f) (get_or (starts_at f) i 0)

-- ---- directions, and the choice

-- where an angle starts and ends, with numerators x laid off
abbrev pub start_of : Figure → (x : ℕ → ℤ) → ℕ → ℤ
start_of f x i = sum_over (before f i) x

abbrev pub end_of : Figure → (x : ℕ → ℤ) → ℕ → ℤ
end_of f x i = sum_over (suc i ∷ before f i) x

-- the difference of two directions that are rounded downwards
unfoldable pub chosen : Figure → (x : ℕ → ℤ) → ℕ → ℤ
chosen f x i = floor_quotient (end_of f x i) (denominator f) -ℤ floor_quotient (start_of f x i) (denominator f)

-- with the numerators that the misclosures give
unfoldable pub choice : Figure → (misclosures : ℕ → ℤ) → ℕ → ℤ
choice f w = chosen f (numerator f w)
