use Rattle.std.specs.Prelude.{pos, ◌+ℤ◌, length}
use Rattle.whole.specs.Sums.{vector}
use Rattle.whole.proofs.Lists.{Replaced}
use Rattle.pass_first.proofs.corrections.add_misclosures.Given as goal

-- the rests passed are worked over, and the sums after them as they were
abbrev pub invariant-loop-j : goal.invariant-loop-j
invariant-loop-j l = Replaced (pos 0) (length l.w) (λ k. vector l.w k +ℤ vector l.initial.rests k) l.initial.rests l.j l.rests
