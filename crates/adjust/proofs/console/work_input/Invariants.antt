-- `adjust::console::work_input` is safe and ends: every turn of its loop but the last reads at least one byte of the room that is left.
use Rattle.std.specs.Prelude.{◌≤◌, ◌-◌, ◌*◌, ◌+◌}
use Rattle.adjust.proofs.console.work_input.Given as goal

abbrev pub invariant-loop-more : goal.invariant-loop-more
invariant-loop-more l = l.size ≤ 223

abbrev pub decreases-loop-more : goal.decreases-loop-more
decreases-loop-more l = 2 * (223 - l.size) + l.more
