-- the fields of the angles passed so far, with their rounds, are packed
use Rattle.std.proofs.Common.{length}
use Rattle.refusals.specs.Numbers.{numbered}
use Rattle.sheet_writer.specs.Parts.{angle_fields}
use Rattle.sheet_writer.proofs.Packing.{PackedRows}
use Rattle.sheet_writer.proofs.write.put_angles.Given as goal

abbrev pub invariant-loop-i : goal.invariant-loop-i
invariant-loop-i l = PackedRows l.initial.sheet l.fn.start (λ i. angle_fields l.carried (numbered l.fn.values.angles.now i 0) (numbered l.fn.values.rounds.now i 0)) (length l.fn.values.angles.now) l.i l.sheet l.packer
