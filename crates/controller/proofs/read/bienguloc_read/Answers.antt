use Rattle.std.proofs.Common.{◌∙◌, rules}
use Rattle.sheet_rules.specs.Lent.{slices, held_by}
use Rattle.controller.specs.Promises.{read_lent, ReadPromise}
use Rattle.controller.proofs.SheetsRead.{wrong_head_small, wrong_head, right_refusal_small, right_refused, right_read}
use Rattle.controller.proofs.read.bienguloc_read.Goals as goal

pub refused-requires : goal.refused-requires
refused-requires c =
    wrong_head_small c.args.sheet.now (read_lent c.args.head.now (slices c.args.angles.now c.args.rounds.now c.args.fixed.now c.args.log_sines.now c.args.differences.now c.args.log_sides.now)) c.if-head-ne-HEAD_LENGTH.true c.refusal_of_lengths.result c.refusal_of_lengths.ensures

pub returns-then-head-ne-HEAD_LENGTH : goal.returns-then-head-ne-HEAD_LENGTH
returns-then-head-ne-HEAD_LENGTH c =
    wrong_head c.args.sheet.now (read_lent c.args.head.now (slices c.args.angles.now c.args.rounds.now c.args.fixed.now c.args.log_sines.now c.args.differences.now c.args.log_sides.now)) c.if-head-ne-HEAD_LENGTH.true c.refusal_of_lengths.result c.refusal_of_lengths.ensures c.refused.ensures

pub refused-requires-in-Err : goal.refused-requires-in-Err
refused-requires-in-Err c =
    right_refusal_small c.args.sheet.now (read_lent c.args.head.now (slices c.args.angles.now c.args.rounds.now c.args.fixed.now c.args.log_sines.now c.args.differences.now c.args.log_sides.now)) c.if-head-ne-HEAD_LENGTH.false c.read_sheet.ensures.promise c.in-Err.refusal c.in-Err.is

pub returns-in-Err : goal.returns-in-Err
returns-in-Err c =
    let done : ReadPromise c.args.sheet.now (read_lent c.args.head.now (slices c.args.angles.now c.args.rounds.now c.args.fixed.now c.args.log_sines.now c.args.differences.now c.args.log_sides.now))
    c.refused-in-Err.result (read_lent c.args.head.now (held_by c.read_sheet.new.room)) =
    right_refused c.args.sheet.now (read_lent c.args.head.now (slices c.args.angles.now c.args.rounds.now c.args.fixed.now c.args.log_sines.now c.args.differences.now c.args.log_sides.now)) c.if-head-ne-HEAD_LENGTH.false c.read_sheet.ensures.promise c.in-Err.refusal c.in-Err.is c.refused-in-Err.ensures in
    search (rules, done)

pub returns-in-Ok : goal.returns-in-Ok
returns-in-Ok c =
    let done : ReadPromise c.args.sheet.now (read_lent c.args.head.now (slices c.args.angles.now c.args.rounds.now c.args.fixed.now c.args.log_sines.now c.args.differences.now c.args.log_sides.now))
    0 (read_lent c.copy_from_slice.new.self (held_by c.read_sheet.new.room)) =
    right_read c.args.sheet.now (read_lent c.args.head.now (slices c.args.angles.now c.args.rounds.now c.args.fixed.now c.args.log_sines.now c.args.differences.now c.args.log_sides.now)) c.if-head-ne-HEAD_LENGTH.false c.read_sheet.ensures.promise _ _ _ c.in-Ok.is
    (c.copy_from_slice.ensures.after ∙ c.head_of.ensures) in
    search (rules, done)
