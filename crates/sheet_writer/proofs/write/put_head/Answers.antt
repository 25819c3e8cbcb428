-- each field is packed after the one before it, and has room after it
use Rattle.std.proofs.Common.{[], ◌∷◌, ap, arith}
use Rattle.figures.specs.{declared.Name.Name, Figure.description}
use Rattle.sheet_layout.specs.Kinds.{number_of_kind}
use Rattle.sheet_writer.specs.{Packer.none_packed, Parts.field_from}
use Rattle.sheet_writer.proofs.PackerLaws.{packs_then, room_after_one, holding}
use Rattle.sheet_writer.proofs.write.put_head.Goals as goal

pub put-with_code-requires-clause-has_room : goal.put-with_code-requires-clause-has_room
put-with_code-requires-clause-has_room c =
    room_after_one 4 _ 4 c.put-with_kind.ensures c.put-with_kind.auto.sheet (record { well = omega arith; enough = omega (arith, c.requires) })

pub put-requires-clause-has_room : goal.put-requires-clause-has_room
put-requires-clause-has_room c =
    room_after_one 4 _ 4 c.put-with_code.ensures c.put-with_code.auto.sheet
    (room_after_one 4 _ 8 c.put-with_kind.ensures c.put-with_kind.auto.sheet (record { well = omega arith; enough = omega (arith, c.requires) }))

pub returns : goal.returns
returns c =
    let a = c.args in
    let f = a.head.figure in
    let name = c.name_of-name.ensures in
    packs_then a.sheet.now none_packed (field_from 4 (number_of_kind a.head.kind) ∷ []) (field_from 4 (description f).code ∷ field_from 4 (description f).n ∷ [])
    (holding 4 c.number_of_kind.ensures c.put-with_kind.ensures)
    (packs_then _ _ (field_from 4 (description f).code ∷ []) (field_from 4 (description f).n ∷ [])
    (holding 4 (ap (λ (r : Name). r.code) name) c.put-with_code.ensures) (holding 4 (ap (λ (r : Name). r.n) name) c.put.ensures))
