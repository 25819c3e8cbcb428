-- The eight figures of document 01, "The eight figures", and the ninth of document 02, M-100, in their numbering: corners, triangles,
-- angles, conditions, fixed angles and sides count from 1.
use Rattle.std.specs.Prelude.{None, Option, Some}
use Rattle.std.specs.Prelude.{ℕ, zero, suc, ◌-◌, ◌*◌, Bool, cond, ◌&&◌, List, [], ◌∷◌, ◌++◌, map, eqb, length, get_or, replicate, ℤ, pos}
use Rattle.figures.specs.{declared.Figure.Figure, declared.Name.Name}
use Rattle.figures.specs.declared.Figure.TheVariants.{Quadrilateral, PointInTriangle, PointInQuadrilateral, CentralTriangle, CentralQuadrilateral, CentralPentagon, CentralHexagon, CentralHeptagon, CentralOctagon}
use Rattle.figures.specs.declared.Counts.{Counts}
use Rattle.figures.specs.Rows.{each_of, minus, quadrilateral_rows, quadrilateral_signs, point_in_triangle_rows, point_in_quadrilateral_rows, central_polygon_rows, triangle_signs, signs_from}

-- what the angles of a condition should sum to: 180°, 360°, or a fixed angle by its number
pub data Target : Type 0 where
  HalfTurn : Target
  FullTurn : Target
  FixedAngle : (number : ℕ) → Target
  NoCondition : Target

-- the angles that a condition joins, and what they should sum to
pub record Condition : Type 0 where
  pub angles : List ℕ
  pub target : Target

-- a sine condition: the signs of the angles' log-sines, and those of known log sides
pub record SineCondition : Type 0 where
  pub signs : List ℤ
  pub sides : List ℤ

-- all that the documents say of a figure; the exact correction of an angle is its row over the denominator
pub record Description : Type 0 where
  pub code : ℕ
  pub n : ℕ
  pub denominator : ℕ
  pub angle_count : ℕ
  pub fixed_count : ℕ
  pub conditions : List Condition
  pub rows : List (List ℤ)
  pub sines : List SineCondition

-- "Sine signs": the condition that every figure has, the pole, in which no known side stands
abbrev pub pole_of : (signs : List ℤ) → SineCondition
pole_of signs = record { signs = signs; sides = [] }

-- ---- code 1, n = 0, the geodetic quadrilateral

abbrev pub quadrilateral : Description
quadrilateral = record {
  code = 1;
  n = 0;
  denominator = 8;
  angle_count = 8;
  fixed_count = 0;
  conditions =
      record { angles = 1 ∷ 2 ∷ 3 ∷ 4 ∷ []; target = HalfTurn }
      ∷ record { angles = 3 ∷ 4 ∷ 5 ∷ 6 ∷ []; target = HalfTurn }
      ∷ record { angles = 5 ∷ 6 ∷ 7 ∷ 8 ∷ []; target = HalfTurn } ∷ [];
  rows = quadrilateral_rows;
  sines = pole_of quadrilateral_signs ∷ [];
}

-- ---- codes 2 and 3: triangle i stands on outer corners i and i+1, indices cyclic

-- the angles of triangle i: at the inner point, at corner i, at corner i+1
abbrev pub inner : ℕ → ℕ
inner i = 3 * i - 2

abbrev pub left : ℕ → ℕ
left i = 3 * i - 1

abbrev pub right : ℕ → ℕ
right i = 3 * i

abbrev pub triangle : ℕ → Condition
triangle i = record { angles = inner i ∷ left i ∷ right i ∷ []; target = HalfTurn }

-- the one before j of n, cyclic
abbrev pub previous : ℕ → ℕ → ℕ
previous n j = cond (eqb j 1) n (j - 1)

-- code 2: the last angle of triangle j−1 plus the second of triangle j equals fixed angle j
abbrev pub corner : ℕ → ℕ → Condition
corner n j = record { angles = right (previous n j) ∷ left j ∷ []; target = FixedAngle j }

-- code 2, a point inside n known corners, with the sine conditions that it has besides the pole. The horizon is not listed: it follows
-- from these conditions and number 14 (document 02, M-101)
abbrev pub point_inside : (n denominator : ℕ) → (rows : List (List ℤ)) → (others : List SineCondition) → Description
point_inside n denominator rows others = record {
  code = 2;
  n = n;
  denominator = denominator;
  angle_count = 3 * n;
  fixed_count = n;
  conditions = each_of n (λ i. triangle i ∷ []) ++ each_of n (λ j. corner n j ∷ []);
  rows = rows;
  sines = pole_of (triangle_signs n) ∷ others;
}

-- code 2, n = 3, a point in a known triangle
abbrev pub point_in_triangle : Description
point_in_triangle = point_inside 3 10 point_in_triangle_rows []

-- document 02, M-100: the side condition, from known sides 1 (corners 1, 2) and 4 (corners 4, 1):
-- "log side 1 + r of 1 − c of 1 − log side 4 − l of 4 + c of 4"
abbrev pub side_condition : SineCondition
side_condition = record {
  signs = signs_from 12 (right 1 ∷ inner 4 ∷ []) (inner 1 ∷ left 4 ∷ []);
  sides = pos 1 ∷ minus 1 ∷ [];
}

-- document 02, M-100: code 2, n = 4, a point in a known quadrilateral
abbrev pub point_in_quadrilateral : Description
point_in_quadrilateral = point_inside 4 24 point_in_quadrilateral_rows (side_condition ∷ [])

-- code 3: the angles at the inner point sum to 360°
abbrev pub horizon : ℕ → Condition
horizon n = record { angles = each_of n (λ i. inner i ∷ []); target = FullTurn }

-- code 3, n = 3 to 8, the central polygon
abbrev pub central_polygon : ℕ → Description
central_polygon n = record {
  code = 3;
  n = n;
  denominator = 6 * n;
  angle_count = 3 * n;
  fixed_count = 0;
  conditions = each_of n (λ i. triangle i ∷ []) ++ (horizon n ∷ []);
  rows = central_polygon_rows n;
  sines = pole_of (triangle_signs n) ∷ [];
}

-- ---- all figures

abbrev pub description : Figure → Description
description Quadrilateral = quadrilateral
description PointInTriangle = point_in_triangle
description PointInQuadrilateral = point_in_quadrilateral
description CentralTriangle = central_polygon 3
description CentralQuadrilateral = central_polygon 4
description CentralPentagon = central_polygon 5
description CentralHexagon = central_polygon 6
description CentralHeptagon = central_polygon 7
description CentralOctagon = central_polygon 8

abbrev pub all_figures : List Figure
all_figures =
    Quadrilateral
    ∷ PointInTriangle ∷ PointInQuadrilateral
    ∷ CentralTriangle ∷ CentralQuadrilateral ∷ CentralPentagon ∷ CentralHexagon ∷ CentralHeptagon ∷ CentralOctagon
    ∷ []

-- the figure that a code and an n name
abbrev pub named_among : List Figure → ℕ → ℕ → Option Figure
named_among [] code n = None
named_among (f ∷ others) code n = cond (eqb code (description f).code && eqb n (description f).n) (Some f) (named_among others code n)

unfoldable pub figure_of : ℕ → ℕ → Option Figure
figure_of code n = named_among all_figures code n

-- the code and n of each figure
abbrev pub figure_names : List (List ℕ)
figure_names = map (λ f. (description f).code ∷ (description f).n ∷ []) all_figures

-- what the figure has that is named, where one is
abbrev pub of_named : {A : Type 0} → Option Figure → (none : A) → (Figure → A) → A
of_named None none some = none
of_named (Some f) none some = some f

-- ---- what the code asks of a figure

abbrev pub name_of : Figure → Name
name_of f = record { code = (description f).code; n = (description f).n }

abbrev pub denominator : Figure → ℕ
denominator f = (description f).denominator

abbrev pub angle_count : Figure → ℕ
angle_count f = (description f).angle_count

abbrev pub condition_count : Figure → ℕ
condition_count f = length (description f).conditions

abbrev pub fixed_count : Figure → ℕ
fixed_count f = (description f).fixed_count

-- the sine condition that stands in the place of one that a figure has not: in it no angle and no side has a sign
abbrev pub no_sine : Figure → SineCondition
no_sine f = record { signs = replicate (angle_count f) (pos 0); sides = [] }

-- the first sine condition of a figure, the pole, and its second, from known sides
abbrev pub pole : Figure → SineCondition
pole f = get_or (description f).sines 0 (no_sine f)

abbrev pub side : Figure → SineCondition
side f = get_or (description f).sines 1 (no_sine f)

abbrev pub has_side : Figure → Bool
has_side f = eqb (length (description f).sines) 2

-- how many known log sides a sheet of the figure has
abbrev pub side_count : Figure → ℕ
side_count f = length (side f).sides

abbrev pub counts_from : (denominator angles conditions fixed sides : ℕ) → Counts
counts_from d a c f s = record { denominator = d; angles = a; conditions = c; fixed = f; sides = s }

abbrev pub counts_of : Figure → Counts
counts_of f = counts_from (denominator f) (angle_count f) (condition_count f) (fixed_count f) (side_count f)

-- the angles of condition j, and what they should sum to; of a j that is no condition's number, no angles and no sum
abbrev pub condition_at : Figure → ℕ → Condition
condition_at f zero = record { angles = []; target = NoCondition }
condition_at f (suc k) = get_or (description f).conditions k (record { angles = []; target = NoCondition })

abbrev pub members_of : Figure → ℕ → List ℕ
members_of f j = (condition_at f j).angles

abbrev pub target_of : Figure → ℕ → Target
target_of f j = (condition_at f j).target
