use Rattle.std.proofs.Common.{sym, ◌∙◌}
use Rattle.sheet_reader.proofs.ColumnLaws.{rounds_held_lem, ones_many, ones_read}
use Rattle.sheet_reader.proofs.values.rounds_in.Goals as goal

pub returns-then-carries_rounds : goal.returns-then-carries_rounds
returns-then-carries_rounds c =
    rounds_held_lem c.args.kind c.args.figure c.args.sheet.now _ (ones_many c.args.figure c.requires)
    (sym c.carries_rounds.ensures ∙ c.if-carries_rounds.true) c.rounds_column.ensures c.take_column.ensures

pub returns-else-carries_rounds : goal.returns-else-carries_rounds
returns-else-carries_rounds c =
    c.requires ∙ ones_read c.args.kind c.args.figure c.args.sheet.now (sym c.carries_rounds.ensures ∙ c.if-carries_rounds.false)
