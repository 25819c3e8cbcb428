-- each field is packed after the one before it, and has room after it
use Rattle.std.proofs.Common.{[], ◌∷◌, ap, ◌∙◌, arith}
use Rattle.vocabulary.specs.{w32, to_z_of_z_at}
use Rattle.bits.specs.Complement.{twos_complement}
use Rattle.sheet_writer.specs.{Packer.HasRoom, Parts.field_from, Parts.angle_fields}
use Rattle.sheet_writer.proofs.Packing.{angle_width}
use Rattle.sheet_writer.proofs.PackerLaws.{packs_then, room_after, room_after_one, holding}
use Rattle.sheet_writer.proofs.write.put_row.Goals as goal

pub put-with_log_sine-requires-clause-has_room : goal.put-with_log_sine-requires-clause-has_room
put-with_log_sine-requires-clause-has_room c =
    let a = c.args in
    room_after (angle_fields a.carried a.angle a.rounds) 27 c.put_angle-with_angle.ensures c.put_angle-with_angle.auto.sheet
    (record { well = c.requires.well; enough = omega (arith, c.requires.enough, angle_width a.carried a.angle a.rounds) })

pub put-requires-clause-has_room : goal.put-requires-clause-has_room
put-requires-clause-has_room c =
    let a = c.args in
    let after_angle : HasRoom c.put_angle-with_angle.new.sheet c.put_angle-with_angle.result 42 =
    room_after (angle_fields a.carried a.angle a.rounds) 42 c.put_angle-with_angle.ensures c.put_angle-with_angle.auto.sheet
    (record { well = c.requires.well; enough = omega (arith, c.requires.enough, angle_width a.carried a.angle a.rounds) }) in
    room_after_one 27 _ 15 c.put-with_log_sine.ensures c.put-with_log_sine.auto.sheet after_angle

pub returns : goal.returns
returns c =
    let a = c.args in
    packs_then a.sheet.now a.start (angle_fields a.carried a.angle a.rounds) (field_from 27 a.log_sine ∷ field_from 15 (twos_complement 15 a.difference) ∷ [])
    c.put_angle-with_angle.ensures
    (packs_then _ _ (field_from 27 a.log_sine ∷ []) (field_from 15 (twos_complement 15 a.difference) ∷ [])
    c.put-with_log_sine.ensures (holding 15 (c.twos_complement-complement.ensures ∙ ap (twos_complement 15) (to_z_of_z_at w32 _ c.ranges.difference)) c.put.ensures))
