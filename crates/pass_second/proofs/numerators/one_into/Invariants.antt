-- The angles passed have their corrections.
use Rattle.std.specs.Prelude.{length, ◌*ℤ◌}
use Rattle.whole.specs.Sums.{vector}
use Rattle.pass_second.specs.Steps.{exact_correction}
use Rattle.pass_second.proofs.CorrectionSteps.{Corrected}
use Rattle.pass_second.proofs.numerators.one_into.Given as goal

abbrev pub invariant-loop-i : goal.invariant-loop-i
invariant-loop-i l =
    Corrected (length l.fn.a) (λ k. exact_correction (l.fn.scale *ℤ vector l.fn.a k) l.divisor) l.i l.high l.low l.tenths
