-- The data of each family, by the index.
use Rattle.std.specs.Prelude.{◌%◌}
use Rattle.vocabulary.specs.{sym, ◌∙◌, eq-eqb, ne_eqb}
use Rattle.pass_steps.proofs.Polygons.{is_point_inside_either, is_polygon_left}
use Rattle.closing.proofs.Starts.{after_another, from_corners, round_point_lem}
use Rattle.closing.proofs.directions.starts_at.Goals as goal

pub returns-in-Quadrilateral : goal.returns-in-Quadrilateral
returns-in-Quadrilateral c = sym (after_another c.args.figure c.in-Quadrilateral.is c.args.i c.requires)

pub returns-then-i-eq0 : goal.returns-then-i-eq0
returns-then-i-eq0 c =
    let i = c.args.i in
    sym (from_corners c.args.figure (is_point_inside_either c.args.figure c.in-PointInTriangle.is) i c.requires ∙ rw (eq-eqb (i % 3) 0 c.if-i-eq0.true))

pub returns-then-i-eq1 : goal.returns-then-i-eq1
returns-then-i-eq1 c =
    let i = c.args.i in
    sym (from_corners c.args.figure (is_point_inside_either c.args.figure c.in-PointInTriangle.is) i c.requires
    ∙ rw (ne_eqb (i % 3) 0 c.if-i-eq0.false, eq-eqb (i % 3) 1 c.if-i-eq1.true))

pub returns-else-i-eq1 : goal.returns-else-i-eq1
returns-else-i-eq1 c =
    let i = c.args.i in
    sym (from_corners c.args.figure (is_point_inside_either c.args.figure c.in-PointInTriangle.is) i c.requires
    ∙ rw (ne_eqb (i % 3) 0 c.if-i-eq0.false, ne_eqb (i % 3) 1 c.if-i-eq1.false))

pub returns-then-i-eq0-3 : goal.returns-then-i-eq0-3
returns-then-i-eq0-3 c =
    let i = c.args.i in
    let p = is_polygon_left c.args.figure c.in_default.not-Quadrilateral c.in_default.not-PointInTriangle c.in_default.not-PointInQuadrilateral in
    sym (round_point_lem c.args.figure p i c.requires ∙ rw (eq-eqb (i % 3) 0 c.if-i-eq0-2.true, eq-eqb i 0 c.if-i-eq0-3.true))

pub returns-else-i-eq0-3 : goal.returns-else-i-eq0-3
returns-else-i-eq0-3 c =
    let i = c.args.i in
    let p = is_polygon_left c.args.figure c.in_default.not-Quadrilateral c.in_default.not-PointInTriangle c.in_default.not-PointInQuadrilateral in
    sym (round_point_lem c.args.figure p i c.requires ∙ rw (eq-eqb (i % 3) 0 c.if-i-eq0-2.true, ne_eqb i 0 c.if-i-eq0-3.false))

pub returns-else-i-eq0-2 : goal.returns-else-i-eq0-2
returns-else-i-eq0-2 c =
    let i = c.args.i in
    let p = is_polygon_left c.args.figure c.in_default.not-Quadrilateral c.in_default.not-PointInTriangle c.in_default.not-PointInQuadrilateral in
    sym (round_point_lem c.args.figure p i c.requires ∙ rw (ne_eqb (i % 3) 0 c.if-i-eq0-2.false))
