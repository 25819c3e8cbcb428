-- The two rules of document 02, M-104, and what the first pass says. First rule: each correction is the whole tenth just below or just
-- above the exact one, numerator / D; a whole value stays, being both. Second rule: every rest is 0. Angles and conditions by their
-- index, counted from 0.
use Rattle.std.specs.Prelude.{ℕ, ◌<◌, List, ◌∷◌, ◌⊎◌, ◌≡◌, ℤ, pos, ◌+ℤ◌, length}
use Rattle.whole.specs.{Lists.listed, Sums.vector}
use Rattle.refusals.specs.Order.{Row}
use Rattle.figures.specs.{declared.Figure.Figure, Figure.denominator, Figure.angle_count, Figure.condition_count, Numerators.condition_sum}
use Rattle.pass_rules.specs.FirstPass.{misclosure, first_numerator, first_result_lengths, first_rows}
use Rattle.closing.specs.{Choice.choice, Floor.floor_quotient, Floor.ceiling_quotient}

-- the rows of the first pass, whose slices for results have the figure's lengths
abbrev pub pass_rows : Figure → (limit : ℕ) → (angles rounds fixed : List ℕ) → List Row
pass_rows f limit angles rounds fixed = first_rows f limit angles rounds fixed (length angles ∷ length rounds ∷ length fixed ∷ first_result_lengths f)

-- ---- the rules, of corrections x

abbrev pub BelowOrAbove : Figure → (angles fixed : List ℕ) → (x : ℕ → ℤ) → Type 0
BelowOrAbove f angles fixed x =
    (i : ℕ) → i < angle_count f
    → (x i ≡ floor_quotient (first_numerator f angles fixed i) (denominator f)) ⊎ (x i ≡ ceiling_quotient (first_numerator f angles fixed i) (denominator f))

abbrev pub rest_with : Figure → (angles fixed : List ℕ) → (x : ℕ → ℤ) → ℕ → ℤ
rest_with f angles fixed x j = misclosure f angles fixed j +ℤ condition_sum f x j

abbrev pub Closed : Figure → (angles fixed : List ℕ) → (x : ℕ → ℤ) → Type 0
Closed f angles fixed x = (j : ℕ) → j < condition_count f → rest_with f angles fixed x j ≡ pos 0

pub record BothRules (f : Figure) (angles fixed : List ℕ) (x : ℕ → ℤ) : Type 0 where
  pub below_or_above : BelowOrAbove f angles fixed x
  pub closed : Closed f angles fixed x

-- ---- as lists, for number 15

-- the whole tenths just below and just above, from the numerators
abbrev pub tenths_under : Figure → (numerators : List ℤ) → List ℤ
tenths_under f numerators = listed (angle_count f) (λ i. floor_quotient (vector numerators i) (denominator f))

abbrev pub tenths_over : Figure → (numerators : List ℤ) → List ℤ
tenths_over f numerators = listed (angle_count f) (λ i. ceiling_quotient (vector numerators i) (denominator f))

-- the rests, from the misclosures w
abbrev pub rests_left : Figure → (w offered : List ℤ) → List ℤ
rests_left f w offered = listed (condition_count f) (λ j. vector w j +ℤ condition_sum f (vector offered) j)

-- our own choice
abbrev pub choice_of : Figure → (angles fixed : List ℕ) → List ℤ
choice_of f angles fixed = listed (angle_count f) (choice f (misclosure f angles fixed))
