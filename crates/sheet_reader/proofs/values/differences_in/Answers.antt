use Rattle.sheet_reader.proofs.ColumnLaws.{differences_held}
use Rattle.sheet_reader.proofs.values.differences_in.Goals as goal

pub returns : goal.returns
returns c = differences_held c.args.kind c.args.figure c.args.sheet.now _ c.requires c.difference_column.ensures c.take_column.ensures
