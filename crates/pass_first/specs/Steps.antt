-- What the steps of the first pass give, from its misclosures w.
use Rattle.std.specs.Prelude.{ℕ, List, [], ◌∷◌, ℤ, ◌+ℤ◌, length}
use Rattle.whole.specs.{Lists.listed, Quotient.rounded_quotient, Sums.vector}
use Rattle.figures.specs.{declared.Figure.Figure, Figure.denominator, Figure.angle_count, Figure.condition_count}
use Rattle.figures.specs.Numerators.{condition_sum, numerator}
use Rattle.pass_rules.specs.Promises.{FirstLent, first_lent}
use Rattle.pass_steps.specs.Steps.{numerators_from, results_from}

-- the rounded correction of an angle, and of each
abbrev pub tenths_from : Figure → (w : List ℤ) → ℕ → ℤ
tenths_from f w i = rounded_quotient (numerator f (vector w) i) (denominator f)

abbrev pub tenths_of : Figure → (w : List ℤ) → List ℤ
tenths_of f w = listed (angle_count f) (tenths_from f w)

-- the rests that the rounded corrections leave
abbrev pub rests_from : Figure → (w tenths : List ℤ) → List ℤ
rests_from f w tenths = listed (condition_count f) (λ j. vector w j +ℤ condition_sum f (vector tenths) j)

-- what the work stores: everything that is lent but the rounds, which no correction touches
pub record FirstWork : Type 0 where
  pub misclosures : List ℤ
  pub numerators : List ℤ
  pub rounded : List ℤ
  pub corrected : List ℕ
  pub rests : List ℤ

abbrev pub first_work : (misclosures numerators rounded : List ℤ) → (corrected : List ℕ) → (rests : List ℤ) → FirstWork
first_work misclosures numerators rounded corrected rests = record {
  misclosures = misclosures;
  numerators = numerators;
  rounded = rounded;
  corrected = corrected;
  rests = rests;
}

-- what is lent for the work
abbrev pub work_of : FirstLent → FirstWork
work_of lent = first_work lent.misclosures lent.numerators lent.rounded lent.corrected lent.rests

abbrev pub work_lent : FirstWork → List ℕ
work_lent work =
    length work.misclosures ∷ length work.numerators ∷ length work.rounded ∷ length work.corrected ∷ length work.rests ∷ []

abbrev pub work_lengths : Figure → List ℕ
work_lengths f = condition_count f ∷ angle_count f ∷ angle_count f ∷ angle_count f ∷ condition_count f ∷ []

-- with the rounds beside the corrected angles
abbrev pub with_rounds : FirstWork → (rounds : List ℕ) → FirstLent
with_rounds work rounds = first_lent work.misclosures work.numerators work.rounded work.corrected rounds work.rests

abbrev pub first_from : Figure → (angles : List ℕ) → (w : List ℤ) → FirstWork
first_from f angles w =
    first_work w (numerators_from f w) (tenths_of f w) (results_from angles (tenths_of f w)) (rests_from f w (tenths_of f w))
