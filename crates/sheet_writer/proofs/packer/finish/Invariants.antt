-- The bytes that are out and the bits of `rest` are what was packed, with zero bits after it.
use Rattle.sheet_writer.proofs.PackerLaws.{Emptied}
use Rattle.sheet_writer.proofs.packer.finish.Given as goal

abbrev pub invariant-loop-at : goal.invariant-loop-at
invariant-loop-at l = Emptied l.fn.sheet l.initial.rest l.initial.at l.sheet l.rest l.at
