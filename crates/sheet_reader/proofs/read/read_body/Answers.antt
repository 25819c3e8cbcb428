-- The shape is judged first, and only where it passes are the values read.
use Rattle.std.proofs.Common.{rules}
use Rattle.sheet_rules.specs.Lent.{held_by}
use Rattle.sheet_reader.proofs.BodyLaws.{shape_refused, right_lengths, values_decide}
use Rattle.sheet_reader.proofs.read.read_body.Goals as goal

pub returns-in_err-check_shape-clause-promise : goal.returns-in_err-check_shape-clause-promise
returns-in_err-check_shape-clause-promise c =
    let a = c.args in
    shape_refused a.head.kind a.head.figure a.sheet.now (held_by a.room.now) _ c.check_shape.ensures c.in_err-check_shape.was (search rules)

pub read_values-requires : goal.read_values-requires
read_values-requires c =
    let a = c.args in
    right_lengths a.head.kind a.head.figure a.sheet.now (held_by a.room.now) c.check_shape.ensures c.in_ok-check_shape.was

pub returns-clause-promise : goal.returns-clause-promise
returns-clause-promise c =
    let a = c.args in
    values_decide a.head.kind a.head.figure a.sheet.now (held_by a.room.now) c.check_shape.ensures c.in_ok-check_shape.was c.read_values.ensures.promise
