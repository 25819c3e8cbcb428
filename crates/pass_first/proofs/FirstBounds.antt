-- How large the numbers of an accepted first pass are. Assumes nothing.
use Rattle.std.specs.Prelude.{List, ℕ, ◌≤◌, ◌<◌, ℤ, nat_abs}
use Rattle.vocabulary.specs.{subst, le_trans, arith, lit≤}
use Rattle.whole.proofs.Magnitudes.{nat_abs_add}
use Rattle.refusals.specs.Ranges.{most_limit}
use Rattle.figures.specs.{declared.Figure.Figure, Figure.condition_count, Numerators.condition_sum}
use Rattle.pass_rules.specs.FirstPass.{misclosure, first_numerator, first_rounded, first_rest, misclosures_of}
use Rattle.pass_rules.proofs.{FirstAccepted.Accepted, WithinRange.in_force_within}
use Rattle.pass_steps.specs.Premises.{Within}
use Rattle.pass_steps.proofs.{Bounds.condition_magnitude, StepLaws.listed_within}
use Rattle.pass_first.proofs.FirstPromised.{numerator_is, tenths_is}
use Rattle.pass_first.proofs.FirstSteps.{numerator_small, tenths_small}

module _ (f : Figure) (limit : ℕ) (angles rounds fixed lent : List ℕ) (ok : Accepted f limit angles rounds fixed lent) where
  pub misclosure_small : (j : ℕ) → j < condition_count f → nat_abs (misclosure f angles fixed j) ≤ most_limit
  misclosure_small j h = le_trans (ok.misclosure_within j h) (in_force_within 90 most_limit limit (lit≤ tt) ok.entries.limit_range)

  small : Within most_limit (misclosures_of f angles fixed)
  small = listed_within (condition_count f) (misclosure f angles fixed) most_limit misclosure_small

  pub first_numerator_small : (i : ℕ) → nat_abs (first_numerator f angles fixed i) ≤ 540000
  first_numerator_small i = subst (λ (z : ℤ). nat_abs z ≤ 540000) (numerator_is f angles fixed i) (numerator_small f (misclosures_of f angles fixed) small i)

  pub first_rounded_small : (i : ℕ) → nat_abs (first_rounded f angles fixed i) ≤ 540000
  first_rounded_small i = subst (λ (z : ℤ). nat_abs z ≤ 540000) (tenths_is f angles fixed i) (tenths_small f (misclosures_of f angles fixed) small i)

  pub first_rest_small : (j : ℕ) → j < condition_count f → nat_abs (first_rest f angles fixed j) ≤ 4320600
  unfolding first_rest
  first_rest_small j h =
      omega (
        arith,
        nat_abs_add (misclosure f angles fixed j) (condition_sum f (first_rounded f angles fixed) j),
        misclosure_small j h,
        condition_magnitude f (first_rounded f angles fixed) 540000 first_rounded_small j,
      )
