-- The conditions of each family.
use Rattle.std.specs.Prelude.{◌≡◌, ℕ, ◌+◌, ◌-◌, ◌*◌, ◌+ℤ◌, length}
use Rattle.vocabulary.specs.{sym, ap, ap₂, ◌∙◌, arith, w64, to_z_of_z_at}
use Rattle.whole.specs.Sums.{sum, vector}
use Rattle.figures.specs.{declared.Figure.Figure, Numerators.condition_sum}
use Rattle.figures.specs.Figure.{description, condition_count}
use Rattle.figures.proofs.Families.{last_before, point_inside_lem, polygon, quadrilateral_sum, triangle_sum}
use Rattle.pass_steps.proofs.Polygons.{is_point_inside_either, is_polygon_left}
use Rattle.pass_steps.proofs.conditions.condition_sum.Goals as goal

pub returns-in-Quadrilateral : goal.returns-in-Quadrilateral
returns-in-Quadrilateral c =
    let x = vector c.args.x.now in
    let three : condition_count c.args.figure ≡ 3 = ap condition_count c.in-Quadrilateral.is in
    to_z_of_z_at w64 _ (record { sfits = c.run_sum.type_inv }) ∙ c.run_sum.ensures ∙ sym (quadrilateral_sum x c.args.j (omega (arith, three)))
    ∙ ap (λ (g : Figure). condition_sum g x c.args.j) (sym c.in-Quadrilateral.is)

pub returns-then-j-x : goal.returns-then-j-x
returns-then-j-x c =
    let p = point_inside_lem c.args.figure (is_point_inside_either c.args.figure c.in-PointInTriangle.is) in
    to_z_of_z_at w64 _ (record { sfits = c.run_sum-then-j-x.type_inv }) ∙ c.run_sum-then-j-x.ensures
    ∙ sym (triangle_sum c.args.figure (vector c.args.x.now) c.args.j (omega (arith, p.angles, c.requires.x_len)))

pub returns-else-j-x : goal.returns-else-j-x
returns-else-j-x c =
    let f = c.args.figure in
    let p = point_inside_lem f (is_point_inside_either f c.in-PointInTriangle.is) in
    let x = vector c.args.x.now in
    let j = c.args.j in
    let corner : ℕ = j - (description f).n in
    let angles : length c.args.x.now ≡ 3 * (description f).n = c.requires.x_len ∙ p.angles in
    let first : 3 * j - length c.args.x.now ≡ 3 * corner = omega (arith, angles) in
    let own : (description f).n + corner ≡ j = omega (arith, angles) in
    to_z_of_z_at w64 _ (record { sfits = c.corner_sum.type_inv }) ∙ c.corner_sum.ensures
    ∙ ap₂ (λ (n k : ℕ). x (last_before n k) +ℤ x (k + 1)) angles first
    ∙ sym (p.corner_sum x corner (omega (arith, angles, p.conditions, c.requires.j_bound))) ∙ ap (condition_sum f x) own

pub returns-then-j-x-2 : goal.returns-then-j-x-2
returns-then-j-x-2 c =
    let p = polygon c.args.figure (is_polygon_left c.args.figure c.in_default.not-Quadrilateral c.in_default.not-PointInTriangle c.in_default.not-PointInQuadrilateral) in
    to_z_of_z_at w64 _ (record { sfits = c.run_sum-then-j-x-2.type_inv }) ∙ c.run_sum-then-j-x-2.ensures
    ∙ sym (triangle_sum c.args.figure (vector c.args.x.now) c.args.j (omega (arith, p.angles, c.requires.x_len)))

pub returns-else-j-x-2 : goal.returns-else-j-x-2
returns-else-j-x-2 c =
    let f = c.args.figure in
    let p = polygon f (is_polygon_left f c.in_default.not-Quadrilateral c.in_default.not-PointInTriangle c.in_default.not-PointInQuadrilateral) in
    let x = vector c.args.x.now in
    let last : c.args.j ≡ (description f).n = omega (arith, p.angles, p.conditions, c.requires.x_len, c.requires.j_bound) in
    to_z_of_z_at w64 _ (record { sfits = c.run_sum-else-j-x-2.type_inv }) ∙ c.run_sum-else-j-x-2.ensures ∙ ap (λ (n : ℕ). sum n (λ k. x (0 + 3 * k))) last
    ∙ sym (p.horizon_sum_lem x) ∙ ap (condition_sum f x) (sym last)
