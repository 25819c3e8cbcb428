use Rattle.std.proofs.Common.{ℕ, arith, ap, ◌∙◌}
use Rattle.bits.specs.Bits.{field_at}
use Rattle.sheet_reader.specs.Columns.{values_held}
use Rattle.sheet_reader.proofs.Taking.{taken_more, taken_all}
use Rattle.sheet_reader.proofs.columns.take_column.Goals as goal

pub loop-value-preserved : goal.loop-value-preserved
loop-value-preserved g c =
    taken_more _ _ _ c.loop-value.invariant (omega arith)
    (c.from_field.ensures
    ∙ ap (g.T.FieldValue.held c.args.column.width)
    (c.field.ensures ∙ ap (λ (at : ℕ). field_at c.args.sheet.now at c.args.column.width) c.loop-value.invariant.reached))

pub returns : goal.returns
unfolding values_held
returns g c = taken_all _ _ _ c.loop-value.invariant (omega arith)
