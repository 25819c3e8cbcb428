use Rattle.std.specs.Prelude.{length}
use Rattle.pass_rules.specs.Pass.{given}
use Rattle.whole.proofs.Lists.{Filled}
use Rattle.pass_first.proofs.misclosures.signed_into.Given as goal

-- the angles passed are filled in
abbrev pub invariant-loop-i : goal.invariant-loop-i
invariant-loop-i l = Filled (length l.angles) (given l.angles) l.i l.signed
