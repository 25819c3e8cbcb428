-- The target of a condition, by the family and what is told of the condition, and what its angles should sum to then.
use Rattle.std.specs.Prelude.{◌≡◌, List, ℕ, suc, ◌+◌, ◌-◌, ◌≤◌, ◌<◌, T, length}
use Rattle.vocabulary.specs.{sym, ap, ◌∙◌, subst, arith, w32, to_z_pos}
use Rattle.figures.specs.{declared.Figure.Figure, declared.Figure.TheVariants.Quadrilateral, Figure.Target}
use Rattle.figures.specs.Figure.{HalfTurn, FullTurn, FixedAngle}
use Rattle.figures.specs.Figure.{description, target_of, condition_count, fixed_count}
use Rattle.figures.proofs.Families.{is_point_inside, is_polygon, point_inside_lem, polygon, quadrilateral_target, triangle_target}
use Rattle.pass_rules.specs.FirstPass.{should_be}
use Rattle.pass_steps.proofs.Polygons.{is_point_inside_either, is_polygon_left}
use Rattle.pass_first.proofs.misclosures.should_be.Goals as goal

quadrilateral : (f : Figure) → f ≡ Quadrilateral → (j : ℕ) → j < condition_count f → target_of f (suc j) ≡ HalfTurn
quadrilateral f e j = subst (λ (g : Figure). j < condition_count g → target_of g (suc j) ≡ HalfTurn) (sym e) (quadrilateral_target j)

module _ (f : Figure) (p : T (is_point_inside f)) (fixed : ℕ) (own : fixed ≡ fixed_count f) (j : ℕ) where
  as_many : fixed ≡ (description f).n
  as_many = own ∙ (point_inside_lem f p).fixed

  point_triangle : j < fixed → target_of f (suc j) ≡ HalfTurn
  point_triangle h = triangle_target f j (omega (arith, as_many))

  fixed_few : j < condition_count f → j - fixed < fixed
  fixed_few h = omega (arith, as_many, (point_inside_lem f p).conditions)

  point_corner : fixed ≤ j → j < condition_count f → target_of f (suc j) ≡ FixedAngle (suc (j - fixed))
  point_corner past h =
      let same : j ≡ (description f).n + (j - fixed) = omega (arith, as_many) in
      ap (λ (k : ℕ). target_of f (suc k)) same ∙ (point_inside_lem f p).corner_target (j - fixed) (omega (arith, as_many, fixed_few h))

polygon_triangle : (f : Figure) → T (is_polygon f) → (j : ℕ) → j + 1 < condition_count f → target_of f (suc j) ≡ HalfTurn
polygon_triangle f p j h = triangle_target f j (omega (arith, (polygon f p).conditions))

polygon_horizon : (f : Figure) → T (is_polygon f) → (j : ℕ) → condition_count f ≤ j + 1 → j < condition_count f → target_of f (suc j) ≡ FullTurn
polygon_horizon f p j past h =
    let last : j ≡ (description f).n = omega (arith, (polygon f p).conditions) in
    ap (λ (k : ℕ). target_of f (suc k)) last ∙ (polygon f p).horizon_target

-- and what the angles should sum to then
told : (f : Figure) (j : ℕ) (fixed : List ℕ) (t : Target) → target_of f (suc j) ≡ t → should_be t fixed ≡ should_be (target_of f (suc j)) fixed
told f j fixed t e = ap (λ (u : Target). should_be u fixed) (sym e)

pub overflow_cast-result : goal.overflow_cast-result
overflow_cast-result c = record { sfits = omega (arith, c.requires.angles (c.args.j - length c.args.fixed.now)) }

pub returns-in-Quadrilateral : goal.returns-in-Quadrilateral
returns-in-Quadrilateral c = told c.args.figure c.args.j _ HalfTurn (quadrilateral c.args.figure c.in-Quadrilateral.is c.args.j (omega arith))

pub returns-then-j-fixed : goal.returns-then-j-fixed
returns-then-j-fixed c =
    let f = c.args.figure in
    told f c.args.j _ HalfTurn (point_triangle f (is_point_inside_either f c.in-PointInTriangle.is) _ c.requires.fixed_len c.args.j (omega arith))

pub returns-else-j-fixed : goal.returns-else-j-fixed
returns-else-j-fixed c =
    let f = c.args.figure in
    let j = c.args.j in
    let fixed = length c.args.fixed.now in
    to_z_pos w32 (omega (arith, c.requires.angles (j - fixed)))
    ∙ told f j _ (FixedAngle (suc (j - fixed))) (point_corner f (is_point_inside_either f c.in-PointInTriangle.is) fixed c.requires.fixed_len j (omega arith) (omega arith))

pub returns-then-j-conditions : goal.returns-then-j-conditions
returns-then-j-conditions c =
    let f = c.args.figure in
    let p = is_polygon_left f c.in_default.not-Quadrilateral c.in_default.not-PointInTriangle c.in_default.not-PointInQuadrilateral in
    told f c.args.j _ HalfTurn (polygon_triangle f p c.args.j (omega arith))

pub returns-else-j-conditions : goal.returns-else-j-conditions
returns-else-j-conditions c =
    let f = c.args.figure in
    let p = is_polygon_left f c.in_default.not-Quadrilateral c.in_default.not-PointInTriangle c.in_default.not-PointInQuadrilateral in
    told f c.args.j _ FullTurn (polygon_horizon f p c.args.j (omega arith) (omega arith))
