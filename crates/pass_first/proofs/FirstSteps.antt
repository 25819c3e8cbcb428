-- The steps of the first pass, from its misclosures w within the limit: what each gives, and how large it is. Assumes nothing.
use Rattle.std.specs.Prelude.{◌≡◌, List, ℕ, zero, suc, ◌^◌, ◌≤◌, ℤ, nat_abs, length}
use Rattle.vocabulary.specs.{◌∙◌, le_trans, arith, lit≤}
use Rattle.whole.specs.{Lists.listed, Quotient.rounded_quotient, Sums.vector}
use Rattle.whole.proofs.Quotient.{rounded_within}
use Rattle.refusals.specs.Ranges.{most_limit}
use Rattle.figures.specs.{declared.Figure.Figure, Figure.Target, Figure.denominator, Figure.angle_count, Numerators.numerator}
use Rattle.figures.specs.Figure.{HalfTurn, FullTurn, FixedAngle, NoCondition}
use Rattle.pass_rules.specs.FirstPass.{should_be}
use Rattle.pass_steps.specs.{Premises.Within, Premises.Angles, Steps.numerators_from}
use Rattle.pass_steps.proofs.{Bounds.numerator_magnitude, StepLaws.listed_within, StepLaws.listed_after, StepLaws.length_of}
use Rattle.pass_first.specs.Steps.{tenths_from, tenths_of}

module _ (f : Figure) (w : List ℤ) (small : Within most_limit w) where
  -- no numerator is greater than nine products of a coefficient below 100 and the greatest limit
  pub numerator_small : (i : ℕ) → nat_abs (numerator f (vector w) i) ≤ 540000
  numerator_small i = numerator_magnitude f (vector w) most_limit small i

  pub tenths_small : (i : ℕ) → nat_abs (tenths_from f w i) ≤ 540000
  tenths_small i = le_trans (rounded_within (numerator f (vector w) i) (denominator f)) (numerator_small i)

  module _ (most : ℕ) (enough : 540000 ≤ most) where
    pub exact_within : Within most (numerators_from f w)
    exact_within = listed_within (angle_count f) (numerator f (vector w)) most (λ i h. le_trans (numerator_small i) enough)

    pub tenths_within : Within most (tenths_of f w)
    tenths_within = listed_within (angle_count f) (tenths_from f w) most (λ i h. le_trans (tenths_small i) enough)

module _ (f : Figure) (w : List ℤ) where
  pub tenths_are : {exact tenths : List ℤ} → exact ≡ numerators_from f w
      → tenths ≡ listed (length exact) (λ i. rounded_quotient (vector exact i) (denominator f)) → tenths ≡ tenths_of f w
  tenths_are {exact} e made =
      made ∙ listed_after (angle_count f) (numerator f (vector w)) exact (λ i z. rounded_quotient z (denominator f)) e (length_of _ _ e)

-- ---- what the angles of a condition should sum to: at most 360°

pub target_small : (fixed : List ℕ) → Angles fixed → (t : Target) → nat_abs (should_be t fixed) ≤ 2 ^ 24
target_small fixed small HalfTurn = lit≤ tt
target_small fixed small FullTurn = lit≤ tt
target_small fixed small (FixedAngle zero) = lit≤ tt
target_small fixed small (FixedAngle (suc i)) = omega (arith, small i)
target_small fixed small NoCondition = lit≤ tt
