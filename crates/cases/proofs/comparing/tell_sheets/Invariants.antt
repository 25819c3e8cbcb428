use Rattle.std.proofs.Common.{◌≤◌}
use Rattle.cases.proofs.comparing.tell_sheets.Given as goal

abbrev pub invariant-loop-case : goal.invariant-loop-case
invariant-loop-case l = l.as_expected ≤ l.case-index
