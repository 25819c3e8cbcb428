-- the fields of the angles passed so far, with their rounds, log-sines and differences, are packed
use Rattle.std.proofs.Common.{length, pos}
use Rattle.refusals.specs.Numbers.{numbered}
use Rattle.sheet_writer.specs.Parts.{row_of}
use Rattle.sheet_writer.proofs.Packing.{PackedRows}
use Rattle.sheet_writer.proofs.write.put_rows.Given as goal

abbrev pub invariant-loop-i : goal.invariant-loop-i
invariant-loop-i l =
    PackedRows l.initial.sheet l.fn.start
    (λ i. row_of l.carried (numbered l.fn.values.angles.now i 0) (numbered l.fn.values.rounds.now i 0) (numbered l.fn.values.log_sines.now i 0) (numbered l.fn.values.differences.now i (pos 0)))
    (length l.fn.values.angles.now) l.i l.sheet l.packer
