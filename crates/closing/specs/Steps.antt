-- What the steps of the check answer: whether a rule is broken.
use Rattle.std.specs.Prelude.{ℕ, Bool, List, ℤ, pos, ◌+ℤ◌, length}
use Rattle.whole.specs.{Lists.listed, Sums.vector}
use Rattle.refusals.specs.{Numbers.numbered, Questions.asked, Questions.some_at, Questions.outside_signed}
use Rattle.closing.specs.Floor.{floor_quotient, ceiling_quotient}

-- at some angle the offered correction is not the whole tenth just below or just above
abbrev pub some_strays : (divisor : ℕ) → (numerators offered : List ℤ) → Bool
some_strays divisor numerators offered =
    asked (some_at (length offered) (λ p. outside_signed (floor_quotient (numbered numerators p (pos 0)) divisor)
    (ceiling_quotient (numbered numerators p (pos 0)) divisor) (numbered offered p (pos 0))))

-- at some condition the rest is not 0
abbrev pub some_open : (rests : List ℤ) → Bool
some_open rests = asked (some_at (length rests) (λ p. outside_signed (pos 0) (pos 0) (numbered rests p (pos 0))))

abbrev pub each_with : (w sums : List ℤ) → List ℤ
each_with w sums = listed (length w) (λ j. vector w j +ℤ vector sums j)
