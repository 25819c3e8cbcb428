use Rattle.std.specs.Prelude.{◌≡◌, ◌+◌, length}
use Rattle.text.specs.Text.{natural}
use Rattle.text.proofs.page.digit_count.Given as goal

-- the digits counted, and those of what is left
abbrev pub invariant-loop-uncounted : goal.invariant-loop-uncounted
invariant-loop-uncounted l = l.count + length (natural l.uncounted) ≡ length (natural l.value)

abbrev pub decreases-loop-uncounted : goal.decreases-loop-uncounted
decreases-loop-uncounted l = l.uncounted
