use Rattle.std.specs.Prelude.{Bool, false, List, ℕ, ◌≡◌, ℤ, pos}
use Rattle.refusals.specs.{Numbers.numbered, Questions.asked, Questions.outside_signed, Questions.any_place}
use Rattle.closing.specs.Floor.{floor_quotient, ceiling_quotient}
use Rattle.closing.proofs.check.some_strays.Given as goal

abbrev pub test : (divisor : ℕ) → (numerators offered : List ℤ) → ℕ → Bool
test divisor numerators offered p =
    asked (outside_signed (floor_quotient (numbered numerators p (pos 0)) divisor) (ceiling_quotient (numbered numerators p (pos 0)) divisor)
    (numbered offered p (pos 0)))

-- no correction passed so far strays
abbrev pub invariant-loop-i : goal.invariant-loop-i
invariant-loop-i l = any_place l.i (test l.divisor l.numerators l.offered) ≡ false
