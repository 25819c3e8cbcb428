-- a turn packs the next row, which has room where all have
use Rattle.std.proofs.Common.{[], ◌∷◌, ℕ, length, arith}
use Rattle.refusals.specs.Numbers.{numbered}
use Rattle.sheet_writer.specs.{Parts.field_from}
use Rattle.sheet_writer.proofs.Packing.{rows_none, rows_more, rows_room, rows_all, one_width}
use Rattle.sheet_writer.proofs.write.put_column.Goals as goal

pub loop-value-init : goal.loop-value-init
loop-value-init c = rows_none _ _ _ _ c.requires.has_room.well

pub put-packer-requires : goal.put-packer-requires
put-packer-requires c =
    let a = c.args in
    record { has_room = rows_room a.sheet.now a.start (λ (i : ℕ). field_from a.width (numbered a.values.now i 0) ∷ []) (length a.values.now) c.loop-value.invariant a.width (one_width a.width a.values.now) c.requires.has_room (omega arith); width_bound = omega arith }

pub loop-value-preserved : goal.loop-value-preserved
loop-value-preserved c =
    let a = c.args in
    rows_more a.sheet.now a.start (λ (i : ℕ). field_from a.width (numbered a.values.now i 0) ∷ []) (length a.values.now) c.loop-value.invariant (omega arith) c.put-packer.auto.sheet c.put-packer.ensures

pub returns : goal.returns
returns c = rows_all _ _ _ _ c.loop-value.invariant (omega arith)
