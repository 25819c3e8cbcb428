use Rattle.std.specs.Prelude.{Bool, false, List, ℕ, ◌≡◌, ℤ, pos}
use Rattle.refusals.specs.{Numbers.numbered, Questions.asked, Questions.outside_signed, Questions.any_place}
use Rattle.closing.specs.Steps.{each_with}
use Rattle.closing.proofs.check.some_left.Given as goal

abbrev pub test : (w sums : List ℤ) → ℕ → Bool
test w sums p = asked (outside_signed (pos 0) (pos 0) (numbered (each_with w sums) p (pos 0)))

-- every rest passed so far is 0
abbrev pub invariant-loop-j : goal.invariant-loop-j
invariant-loop-j l = any_place l.j (test l.misclosures l.sums) ≡ false
