use Rattle.std.specs.Prelude.{◌≡◌, ◌+◌, ◌-◌, ◌*◌}
use Rattle.wide.proofs.division.word_divided.Given as goal

-- the times taken off, and what is left
abbrev pub invariant-loop-remainder : goal.invariant-loop-remainder
invariant-loop-remainder l = l.quotient * l.d + l.remainder ≡ l.n

abbrev pub decreases-loop-remainder : goal.decreases-loop-remainder
decreases-loop-remainder l = l.remainder + 1 - l.d
