-- The angles passed have their corrections.
use Rattle.std.specs.Prelude.{length}
use Rattle.pass_second.specs.Steps.{pair_correction}
use Rattle.pass_second.proofs.CorrectionSteps.{Corrected}
use Rattle.pass_second.proofs.numerators.two_into.Given as goal

abbrev pub invariant-loop-i : goal.invariant-loop-i
invariant-loop-i l =
    Corrected (length l.fn.a) (pair_correction l.fn.factor l.factors l.fn.a l.b) l.i l.high l.low l.tenths
