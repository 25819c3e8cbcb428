-- The places passed hold the numbers.
use Rattle.std.proofs.Common.{◌≡◌, take}
use Rattle.pass_second.proofs.corrections.store_wide.Given as goal

abbrev pub invariant-loop-i : goal.invariant-loop-i
invariant-loop-i l = take l.i l.lent ≡ take l.i l.fn.values
