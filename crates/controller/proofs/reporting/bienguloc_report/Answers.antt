use Rattle.controller.specs.Promises.{text_lent}
use Rattle.controller.proofs.{Lists.stored-1, TextsReported.wrong_written, TextsReported.no_room_left, TextsReported.reported}
use Rattle.controller.proofs.reporting.bienguloc_report.Goals as goal

pub returns-then-written-ne-WRITTEN_LENGTH : goal.returns-then-written-ne-WRITTEN_LENGTH
returns-then-written-ne-WRITTEN_LENGTH c =
    wrong_written c.args.sheet.now (text_lent c.args.text.now c.args.written.now) c.if-written-ne-WRITTEN_LENGTH.true c.refused.ensures

pub returns-in-None : goal.returns-in-None
returns-in-None c =
    no_room_left c.args.sheet.now (text_lent c.args.text.now c.args.written.now) c.if-written-ne-WRITTEN_LENGTH.false c.report.ensures.promise c.in-None.is
    c.refused-in-None.ensures

pub returns-in-Some : goal.returns-in-Some
returns-in-Some c =
    reported c.args.sheet.now (text_lent c.args.text.now c.args.written.now) c.if-written-ne-WRITTEN_LENGTH.false c.report.ensures.promise _ c.in-Some.is
    (stored-1 c.args.written.now _ c.if-written-ne-WRITTEN_LENGTH.false)
