use Rattle.std.specs.Prelude.{suc, pos, ◌-ℤ◌}
use Rattle.whole.specs.Sums.{vector}
use Rattle.whole.proofs.Lists.{Replaced}
use Rattle.figures.specs.Figure.{condition_count, target_of}
use Rattle.pass_rules.specs.FirstPass.{should_be}
use Rattle.pass_first.proofs.misclosures.less_targets.Given as goal

-- the misclosures passed are worked over, and the sums after them as they were
abbrev pub invariant-loop-j : goal.invariant-loop-j
invariant-loop-j l =
    Replaced (pos 0) (condition_count l.figure) (λ k. vector l.initial.w k -ℤ should_be (target_of l.figure (suc k)) l.fixed) l.initial.w l.j l.w
