-- The values taken so far are those of the column, and the next one stands at `at`.
use Rattle.std.proofs.Common.{◌+◌, ◌*◌, length}
use Rattle.bits.specs.Bits.{field_at}
use Rattle.sheet_reader.proofs.Taking.{TakenSoFar}
use Rattle.sheet_reader.proofs.columns.take_column.Given as goal

abbrev pub invariant-loop-value : goal.invariant-loop-value
invariant-loop-value g l =
    TakenSoFar (length l.initial.values) (λ i. g.T.FieldValue.held l.column.width (field_at l.sheet (l.column.start + l.column.step * i) l.column.width)) l.column l.value-index l.at l.values
