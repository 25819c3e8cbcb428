-- The differences passed are filled in, and the totals are the sums of what was passed.
use Rattle.std.specs.Prelude.{length, ◌*◌, ◌*ℤ◌}
use Rattle.whole.specs.Sums.{vector}
use Rattle.whole.proofs.Lists.{Filled}
use Rattle.refusals.specs.Ranges.{most_log_sine, most_difference}
use Rattle.pass_rules.specs.Pass.{given}
use Rattle.pass_second.specs.Sines.{signed_by}
use Rattle.pass_second.proofs.Growing.{Total}
use Rattle.pass_second.proofs.sines.signed_into.Given as goal

abbrev pub invariant-loop-i : goal.invariant-loop-i
invariant-loop-i l = record {
  filled : Filled (length l.fn.differences) (signed_by l.signs l.fn.differences) l.i l.d;
  misclosures : Total most_log_sine (λ k. vector l.signs k *ℤ given l.log_sines k) l.i l.misclosure;
  squares : Total (most_difference * most_difference) (λ k. signed_by l.signs l.fn.differences k *ℤ signed_by l.signs l.fn.differences k) l.i l.difference_squares;
}
