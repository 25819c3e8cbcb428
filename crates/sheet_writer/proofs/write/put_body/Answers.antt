-- the arms are the bodies for the two passes
use Rattle.std.proofs.Common.{◌+◌, ◌*◌, Bool, List, [], ◌∷◌, ◌≡◌, length, sym, subst}
use Rattle.refusals.specs.Numbers.{numbered}
use Rattle.sheet_layout.specs.{declared.Pass.Pass, Layout.rounds_bits}
use Rattle.sheet_rules.specs.{Sheet.Values, Lent.values_given}
use Rattle.sheet_writer.specs.{declared.packer.Packer.Packer, Packer.Packs}
use Rattle.sheet_writer.specs.Parts.{field_from, column_fields, angle_fields, angles_fields, row_fields, body_fields, BodyFits}
use Rattle.sheet_writer.proofs.Packing.{one_width, angle_width, room_after_rows}
use Rattle.sheet_writer.proofs.PackerLaws.{packs_then}
use Rattle.sheet_writer.proofs.write.put_body.Goals as goal

-- the body of the pass that was told
module _ {pass told : Pass} (e : pass ≡ told) (carried : Bool) (v : Values) where
  fits_of : (a : List _) (p : Packer) → BodyFits a p pass carried v → BodyFits a p told carried v
  fits_of a p fits = subst (λ (r : Pass). BodyFits a p r carried v) e fits

  packs_of : {a : List _} {p : Packer} {b : List _} {q : Packer} → Packs a p (body_fields told carried v) b q → Packs a p (body_fields pass carried v) b q
  packs_of {a} {p} {b} {q} packs = subst (λ (r : Pass). Packs a p (body_fields r carried v) b q) (sym e) packs

pub put_column-requires-clause-has_room : goal.put_column-requires-clause-has_room
put_column-requires-clause-has_room c =
    let a = c.args in
    let angles = a.values.angles.now in
    let rounds = a.values.rounds.now in
    room_after_rows (λ i. angle_fields a.carried (numbered angles i 0) (numbered rounds i 0)) (23 + rounds_bits a.carried)
    (λ i. angle_width a.carried (numbered angles i 0) (numbered rounds i 0)) (length angles) (23 * length a.values.fixed.now)
    c.put_angles-with_angles.ensures c.put_angles-with_angles.auto.sheet (fits_of c.in-First.is a.carried (values_given 0 a.values) a.sheet.now a.start c.requires).0

pub put_rows-requires-clause-has_room : goal.put_rows-requires-clause-has_room
put_rows-requires-clause-has_room c =
    let a = c.args in
    let sides = a.values.log_sides.now in
    room_after_rows (λ i. field_from 27 (numbered sides i 0) ∷ []) 27 (one_width 27 sides) (length sides)
    ((65 + rounds_bits a.carried) * length a.values.angles.now) c.put_column-with_sides.ensures c.put_column-with_sides.auto.sheet
    (fits_of c.in-Second.is a.carried (values_given 0 a.values) a.sheet.now a.start c.requires).0

pub returns-in-First : goal.returns-in-First
returns-in-First c =
    let a = c.args in
    let v = a.values in
    packs_of c.in-First.is a.carried (values_given 0 v)
    (packs_then a.sheet.now a.start (angles_fields a.carried v.angles.now v.rounds.now) (column_fields 23 v.fixed.now)
    c.put_angles-with_angles.ensures c.put_column.ensures)

pub returns-in-Second : goal.returns-in-Second
returns-in-Second c =
    let a = c.args in
    let v = a.values in
    packs_of c.in-Second.is a.carried (values_given 0 v)
    (packs_then a.sheet.now a.start (column_fields 27 v.log_sides.now)
    (row_fields a.carried v.angles.now v.rounds.now v.log_sines.now v.differences.now) c.put_column-with_sides.ensures c.put_rows.ensures)
