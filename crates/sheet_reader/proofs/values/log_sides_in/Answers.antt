use Rattle.sheet_reader.proofs.ColumnLaws.{log_sides_held}
use Rattle.sheet_reader.proofs.values.log_sides_in.Goals as goal

pub returns : goal.returns
returns c = log_sides_held c.args.kind c.args.figure c.args.sheet.now _ c.requires c.log_side_column.ensures c.take_column.ensures
