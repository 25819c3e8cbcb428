use Rattle.sheet_reader.proofs.ColumnLaws.{fixed_held}
use Rattle.sheet_reader.proofs.values.fixed_in.Goals as goal

pub returns : goal.returns
returns c = fixed_held c.args.kind c.args.figure c.args.sheet.now _ c.requires c.fixed_column.ensures c.take_column.ensures
