use Rattle.std.specs.Prelude.{◌≡◌, length, take}
use Rattle.whole.proofs.copy_all.Given as goal

-- the values passed so far are copied
abbrev pub invariant-loop-i : goal.invariant-loop-i
invariant-loop-i g l = (length l.lent ≡ length l.values) × (take l.i l.lent ≡ take l.i l.values)
