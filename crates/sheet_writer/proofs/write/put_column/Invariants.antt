-- the fields of the values passed so far are packed
use Rattle.std.proofs.Common.{[], ◌∷◌, length}
use Rattle.refusals.specs.Numbers.{numbered}
use Rattle.sheet_writer.specs.Parts.{field_from}
use Rattle.sheet_writer.proofs.Packing.{PackedRows}
use Rattle.sheet_writer.proofs.write.put_column.Given as goal

abbrev pub invariant-loop-value : goal.invariant-loop-value
invariant-loop-value l = PackedRows l.initial.sheet l.fn.start (λ i. field_from l.width (numbered l.values i 0) ∷ []) (length l.values) l.value-index l.sheet l.packer
