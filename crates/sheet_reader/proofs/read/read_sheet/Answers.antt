-- The head's refusal, or what follows once kind and figure are known.
use Rattle.std.proofs.Common.{rules}
use Rattle.sheet_rules.specs.Lent.{held_by}
use Rattle.sheet_reader.proofs.BodyLaws.{head_refuses, body_reads}
use Rattle.sheet_reader.proofs.read.read_sheet.Goals as goal

pub returns-in_err-head-clause-promise : goal.returns-in_err-head-clause-promise
returns-in_err-head-clause-promise c =
    head_refuses c.args.sheet.now (held_by c.args.room.now) _ c.look_at.ensures c.in_err-head.was (search rules)

pub returns-clause-promise : goal.returns-clause-promise
returns-clause-promise c =
    body_reads c.args.sheet.now (held_by c.args.room.now) _ _ c.look_at.ensures c.in_ok-head.was c.read_body.ensures.promise
