-- a turn packs the next row, which has room where all have
use Rattle.std.proofs.Common.{ℕ, ◌+◌, length, arith}
use Rattle.refusals.specs.Numbers.{numbered}
use Rattle.sheet_layout.specs.Layout.{rounds_bits}
use Rattle.sheet_writer.specs.{Parts.angle_fields}
use Rattle.sheet_writer.proofs.Packing.{rows_none, rows_more, rows_room, rows_all, angle_width}
use Rattle.sheet_writer.proofs.write.put_angles.Goals as goal

pub loop-i-init : goal.loop-i-init
loop-i-init c = rows_none _ _ _ _ c.requires.has_room.well

pub put_angle-packer-requires : goal.put_angle-packer-requires
put_angle-packer-requires c =
    let a = c.args in
    rows_room a.sheet.now a.start (λ (i : ℕ). angle_fields a.carried (numbered a.values.angles.now i 0) (numbered a.values.rounds.now i 0)) (length a.values.angles.now) c.loop-i.invariant (23 + rounds_bits a.carried) (λ i. angle_width a.carried (numbered a.values.angles.now i 0) (numbered a.values.rounds.now i 0)) c.requires.has_room (omega arith)

pub loop-i-preserved : goal.loop-i-preserved
loop-i-preserved c =
    let a = c.args in
    rows_more a.sheet.now a.start (λ (i : ℕ). angle_fields a.carried (numbered a.values.angles.now i 0) (numbered a.values.rounds.now i 0)) (length a.values.angles.now) c.loop-i.invariant (omega arith) c.put_angle-packer.auto.sheet c.put_angle-packer.ensures

pub returns : goal.returns
returns c = rows_all _ _ _ _ c.loop-i.invariant (omega arith)
