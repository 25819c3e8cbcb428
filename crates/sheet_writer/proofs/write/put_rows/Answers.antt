-- a turn packs the next row, which has room where all have; the difference is read back from its bits
use Rattle.std.proofs.Common.{Bool, ℕ, ◌+◌, List, ℤ, pos, length, get_or, subst, w32, to_z, of_z, FitsSigned, to_z-of_z, arith, rules}
use Rattle.refusals.specs.Numbers.{numbered}
use Rattle.sheet_layout.specs.Layout.{rounds_bits}
use Rattle.sheet_writer.specs.{declared.packer.Packer.Packer, Packer.Packs, Parts.row_of}
use Rattle.sheet_writer.proofs.Packing.{rows_none, rows_more, rows_room, rows_all, row_width}
use Rattle.sheet_writer.proofs.write.put_rows.Goals as goal

read_back : {a b : List ℕ} {p q : Packer} (carried : Bool) (angle rounds log_sine : ℕ) (difference : ℤ) → FitsSigned w32 difference
    → Packs a p (row_of carried angle rounds log_sine (to_z w32 (of_z w32 difference))) b q → Packs a p (row_of carried angle rounds log_sine difference) b q
read_back {a} {b} {p} {q} carried angle rounds log_sine difference fits packs =
    subst (λ (d : ℤ). Packs a p (row_of carried angle rounds log_sine d) b q) (to_z-of_z {w = w32} fits) packs

pub loop-i-init : goal.loop-i-init
loop-i-init c = rows_none _ _ _ _ c.requires.has_room.well

pub put_row-packer-requires : goal.put_row-packer-requires
put_row-packer-requires c =
    let a = c.args in
    rows_room a.sheet.now a.start (λ (i : ℕ). row_of a.carried (numbered a.values.angles.now i 0) (numbered a.values.rounds.now i 0) (numbered a.values.log_sines.now i 0) (numbered a.values.differences.now i (pos 0))) (length a.values.angles.now) c.loop-i.invariant (65 + rounds_bits a.carried)
    (λ i. row_width a.carried (numbered a.values.angles.now i 0) (numbered a.values.rounds.now i 0) (numbered a.values.log_sines.now i 0) (numbered a.values.differences.now i (pos 0)))
    c.requires.has_room (omega arith)

pub loop-i-preserved : goal.loop-i-preserved
loop-i-preserved c =
    let a = c.args in
    let i = c.loop-i.i in
    let fits : FitsSigned w32 (get_or a.values.differences.now i (pos 0)) = search rules in
    rows_more a.sheet.now a.start (λ (i : ℕ). row_of a.carried (numbered a.values.angles.now i 0) (numbered a.values.rounds.now i 0) (numbered a.values.log_sines.now i 0) (numbered a.values.differences.now i (pos 0))) (length a.values.angles.now) c.loop-i.invariant (omega arith) c.put_row-packer.auto.sheet
    (read_back a.carried (get_or a.values.angles.now i 0) (get_or a.values.rounds.now i 0) (get_or a.values.log_sines.now i 0) (get_or a.values.differences.now i (pos 0)) fits c.put_row-packer.ensures)

pub returns : goal.returns
returns c = rows_all _ _ _ _ c.loop-i.invariant (omega arith)
