-- what the values passed so far have taken off the sum is what they add up to
use Rattle.std.specs.Prelude.{◌≡◌, ◌+◌, drop}
use Rattle.refusals.specs.Table.{sum_of_all}
use Rattle.judging.proofs.tests.sums_to.Given as given

abbrev pub invariant-loop-value : given.invariant-loop-value
invariant-loop-value l = sum_of_all l.values + l.left ≡ l.sum + sum_of_all (drop l.value-index l.values)
