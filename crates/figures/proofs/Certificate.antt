-- The certificate of a figure as a test that antt computes: C·R = −D·I and R = Cᵀ·K. `Figures` runs it over the list of all figures.
-- Assumes nothing.
use Rattle.std.specs.Prelude.{◌≡◌, Bool, false, ◌&&◌, List, [], ◌∷◌, ◌++◌, map, ℕ, zero, suc, ◌<◌, T, eqb, length, get_or, ℤ, pos, negsuc}
use Rattle.std.specs.Prelude.{neg_ℤ, ◌+ℤ◌, ◌-ℤ◌, ◌*ℤ◌}
use Rattle.vocabulary.specs.{ap, eqb→eq}
use Rattle.whole.specs.{Sums.composed, Sums.identity, Sums.transposed, Sums.table, Lists.every_below}
use Rattle.whole.proofs.Computed.{and_left, and_right, every_below_lem}
use Rattle.figures.specs.{declared.Figure.Figure, Rows.each_of}
use Rattle.figures.specs.declared.Figure.TheVariants.{Quadrilateral, PointInTriangle, PointInQuadrilateral, CentralTriangle, CentralQuadrilateral, CentralPentagon, CentralHexagon, CentralHeptagon, CentralOctagon}
use Rattle.figures.specs.Figure.{Description, Condition, quadrilateral, point_in_triangle, point_in_quadrilateral, central_polygon, description, inner, left}
use Rattle.figures.proofs.LeastSquares.{Certified}

-- 1 for each time that the angle of index i stands among the members
unfoldable pub joined : List ℕ → ℕ → ℤ
joined [] i = pos 0
joined (m ∷ others) i = identity m (suc i) +ℤ joined others i

-- which angles a condition joins, by the indices of condition and angle
unfoldable pub membership : Description → ℕ → ℕ → ℤ
membership d j i = joined (get_or (map (λ (c : Condition). c.angles) d.conditions) j []) i

-- ---- the correlates K: the row of an angle is the sum of the correlates of its conditions, so they are read off rows and differences of
-- rows

unfoldable pub difference : List ℤ → List ℤ → List ℤ
difference [] ys = []
difference (x ∷ xs) [] = []
difference (x ∷ xs) (y ∷ ys) = (x -ℤ y) ∷ difference xs ys

unfoldable pub row_of : Description → ℕ → List ℤ
row_of d zero = []
row_of d (suc i) = get_or d.rows i []

-- angle 1 stands in the first condition alone, angle 3 in the first and second, angle 8 in the third alone
unfoldable pub quadrilateral_correlates : List (List ℤ)
quadrilateral_correlates = row_of quadrilateral 1 ∷ difference (row_of quadrilateral 3) (row_of quadrilateral 1) ∷ row_of quadrilateral 8 ∷ []

-- c of triangle i stands in its triangle alone, l of triangle i in its triangle and in corner i
unfoldable pub point_correlates : Description → List (List ℤ)
point_correlates d = each_of d.n (λ i. row_of d (inner i) ∷ []) ++ each_of d.n (λ i. difference (row_of d (left i)) (row_of d (inner i)) ∷ [])

-- l of triangle i stands in its triangle alone, c of triangle 1 in its triangle and in the horizon
unfoldable pub central_polygon_correlates : ℕ → List (List ℤ)
central_polygon_correlates n =
    each_of n (λ i. row_of (central_polygon n) (left i) ∷ [])
    ++ (difference (row_of (central_polygon n) (inner 1)) (row_of (central_polygon n) (left 1)) ∷ [])

unfoldable pub correlates : Figure → List (List ℤ)
correlates Quadrilateral = quadrilateral_correlates
correlates PointInTriangle = point_correlates point_in_triangle
correlates PointInQuadrilateral = point_correlates point_in_quadrilateral
correlates CentralTriangle = central_polygon_correlates 3
correlates CentralQuadrilateral = central_polygon_correlates 4
correlates CentralPentagon = central_polygon_correlates 5
correlates CentralHexagon = central_polygon_correlates 6
correlates CentralHeptagon = central_polygon_correlates 7
correlates CentralOctagon = central_polygon_correlates 8

-- ---- the test

abbrev pub equal : ℤ → ℤ → Bool
equal (pos a) (pos b) = eqb a b
equal (pos a) (negsuc b) = false
equal (negsuc a) (pos b) = false
equal (negsuc a) (negsuc b) = eqb a b

pub equal_sound : (a b : ℤ) → T (equal a b) → a ≡ b
equal_sound (pos a) (pos b) t = ap pos (eqb→eq a b t)
equal_sound (pos a) (negsuc b) t = absurd t
equal_sound (negsuc a) (pos b) t = absurd t
equal_sound (negsuc a) (negsuc b) t = ap negsuc (eqb→eq a b t)

-- two tables are the same in their first n rows and m columns
unfoldable pub same_tables : ℕ → ℕ → (ℕ → ℕ → ℤ) → (ℕ → ℕ → ℤ) → Bool
same_tables n m a b = every_below n (λ i. every_below m (λ j. equal (a i j) (b i j)))

pub same_tables_lem : (n m : ℕ) (a b : ℕ → ℕ → ℤ) → T (same_tables n m a b) → (i j : ℕ) → i < n → j < m → a i j ≡ b i j
unfolding same_tables
same_tables_lem n m a b t i j h k =
    equal_sound (a i j) (b i j) (every_below_lem m (λ l. equal (a i l) (b i l)) (every_below_lem n (λ l. every_below m (λ o. equal (a l o) (b l o))) t i h) j k)

unfoldable pub certifies : ℕ → ℕ → ℤ → (C R K : ℕ → ℕ → ℤ) → Bool
certifies N M D C R K =
    same_tables M M (composed N C R) (λ j k. neg_ℤ D *ℤ identity j k) && same_tables N M R (composed M (transposed C) K)

pub certificate : (N M : ℕ) (D : ℤ) (C R K : ℕ → ℕ → ℤ) → T (certifies N M D C R K) → Certified N M D C R K
unfolding certifies
certificate N M D C R K t = record {
  cancels = same_tables_lem M M (composed N C R) (λ j k. neg_ℤ D *ℤ identity j k)
      (and_left (same_tables M M (composed N C R) (λ j k. neg_ℤ D *ℤ identity j k)) (same_tables N M R (composed M (transposed C) K)) t);
  spanned = same_tables_lem N M R (composed M (transposed C) K)
      (and_right (same_tables M M (composed N C R) (λ j k. neg_ℤ D *ℤ identity j k)) (same_tables N M R (composed M (transposed C) K)) t);
}

unfoldable pub certifies_figure : Figure → Bool
certifies_figure f =
    certifies (description f).angle_count (length (description f).conditions) (pos (description f).denominator)
    (membership (description f)) (table (description f).rows) (table (correlates f))
