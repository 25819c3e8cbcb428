-- What the steps that both passes share give, and what they leave where what is lent does not fit.
use Rattle.refusals.specs.Numbers.{Verdict}
use Rattle.std.specs.Prelude.{ℕ, cond, List, [], ◌∷◌, ◌≡◌, eqb, ltb, ℤ, pos, nat_abs, length, take}
use Rattle.whole.specs.{Lists.listed, Sums.vector}
use Rattle.refusals.specs.{Order.Row, Promise.Promised, Promise.stored, Table.lengths_row, Table.results_row}
use Rattle.judging.specs.Searches.{results_of}
use Rattle.figures.specs.{declared.Figure.Figure, Figure.angle_count, Figure.condition_count, Numerators.condition_sum, Numerators.numerator}

-- the verdict is answered, and what is lent holds the new values where it passed
abbrev pub StoredIf : {L : Type 0} → (verdict : Verdict) → (new entry : L) → (answer : Verdict) → (exit : L) → Type 0
StoredIf verdict new entry answer exit = Promised verdict (stored verdict new entry) answer exit

-- what is left: the new values where both counts are the ones asked for, and else what was there
abbrev pub fitting : {A : Type 0} → (given asked lent own : ℕ) → (new entry : List A) → List A
fitting given asked lent own new entry = cond (eqb given asked) (cond (eqb lent own) new entry) entry

-- a copy, where it has the length of what it is copied to
abbrev pub same_length : {A : Type 0} → (new entry : List A) → List A
same_length new entry = cond (eqb (length new) (length entry)) new entry

-- a number that is no greater than 2³¹ − 1 either way, and 0 for another
abbrev pub most_held : ℕ
most_held = 2147483647

unfoldable pub held : ℤ → ℤ
held z = cond (ltb most_held (nat_abs z)) (pos 0) z

-- the sum over the angles of each condition
abbrev pub sums_of : Figure → (x : List ℤ) → List ℤ
sums_of f x = listed (condition_count f) (λ j. held (condition_sum f (vector x) j))

-- the numerators that the misclosures w give
abbrev pub numerators_from : Figure → (w : List ℤ) → List ℤ
numerators_from f w = listed (angle_count f) (numerator f (vector w))

-- the first so many of n numerators are those of the rule
abbrev pub AppliedTo : (count n : ℕ) → (rule : ℕ → ℤ) → (numerators : List ℤ) → Type 0
AppliedTo count n rule numerators = take count numerators ≡ take count (listed n rule)

-- the results that a pass judges and gives: 2 where lengths differ, 7
abbrev pub results_rows : (angles : List ℕ) → (rounded : List ℤ) → (lent : ℕ) → List Row
results_rows angles rounded lent =
    lengths_row (length rounded ∷ lent ∷ []) (length angles ∷ length angles ∷ []) ∷ results_row (results_of angles rounded) ∷ []

abbrev pub results_from : (angles : List ℕ) → (rounded : List ℤ) → List ℕ
results_from angles rounded = listed (length angles) (λ i. nat_abs (vector (results_of angles rounded) i))
