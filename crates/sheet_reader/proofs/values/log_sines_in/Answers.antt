use Rattle.sheet_reader.proofs.ColumnLaws.{log_sines_held}
use Rattle.sheet_reader.proofs.values.log_sines_in.Goals as goal

pub returns : goal.returns
returns c = log_sines_held c.args.kind c.args.figure c.args.sheet.now _ c.requires c.log_sine_column.ensures c.take_column.ensures
