-- The figures that an arm of a match takes together: those of code 2, and those of code 3. Assumes nothing.
use Rattle.std.specs.Prelude.{◌⊎◌, ◌≡◌, refl, T}
use Rattle.vocabulary.specs.{⊎_elim, subst, sym}
use Rattle.figures.proofs.{Families.is_point_inside, Families.is_polygon}
use Rattle.figures.specs.declared.Figure.{Figure}
use Rattle.figures.specs.declared.Figure.TheVariants.{Quadrilateral, PointInTriangle, PointInQuadrilateral, CentralTriangle, CentralQuadrilateral, CentralPentagon, CentralHexagon, CentralHeptagon, CentralOctagon}

-- a figure that is none of those of codes 1 and 2 is a polygon
pub is_polygon_left : (f : Figure) → (f ≡ Quadrilateral → ⊥) → (f ≡ PointInTriangle → ⊥) → (f ≡ PointInQuadrilateral → ⊥) → T (is_polygon f)
is_polygon_left Quadrilateral a b c = absurd (a refl)
is_polygon_left PointInTriangle a b c = absurd (b refl)
is_polygon_left PointInQuadrilateral a b c = absurd (c refl)
is_polygon_left CentralTriangle a b c = tt
is_polygon_left CentralQuadrilateral a b c = tt
is_polygon_left CentralPentagon a b c = tt
is_polygon_left CentralHexagon a b c = tt
is_polygon_left CentralHeptagon a b c = tt
is_polygon_left CentralOctagon a b c = tt

-- a figure of code 2
pub is_point_inside_either : (f : Figure) → (f ≡ PointInTriangle) ⊎ (f ≡ PointInQuadrilateral) → T (is_point_inside f)
is_point_inside_either f one =
    ⊎_elim (λ e. subst (λ (g : Figure). T (is_point_inside g)) (sym e) tt) (λ e. subst (λ (g : Figure). T (is_point_inside g)) (sym e) tt) one
