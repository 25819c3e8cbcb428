use Rattle.sheet_reader.proofs.ColumnLaws.{angles_held}
use Rattle.sheet_reader.proofs.values.angles_in.Goals as goal

pub returns : goal.returns
returns c = angles_held c.args.kind c.args.figure c.args.sheet.now _ c.requires c.angle_column.ensures c.take_column.ensures
