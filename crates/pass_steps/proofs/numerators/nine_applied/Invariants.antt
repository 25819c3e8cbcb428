use Rattle.std.proofs.Common.{◌≡◌, length}
use Rattle.whole.specs.Sums.{applied, table, vector}
use Rattle.pass_steps.specs.Steps.{AppliedTo}
use Rattle.pass_steps.proofs.numerators.nine_applied.Given as goal

-- the numerators passed are filled in
abbrev pub invariant-loop-i : goal.invariant-loop-i
invariant-loop-i l = record {
  size : length l.numerators ≡ l.angles;
  done : AppliedTo l.i l.angles (applied l.conditions (table l.fn.rows) (vector l.w)) l.numerators;
}
