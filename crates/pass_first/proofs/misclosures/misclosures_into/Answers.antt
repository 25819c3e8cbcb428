use Rattle.std.specs.Prelude.{◌≡◌, refl, List, ℕ, suc, ℤ, ◌-ℤ◌, length}
use Rattle.std.proofs.Common.{arith, ap, ◌∙◌}
use Rattle.whole.specs.{Lists.listed, Sums.vector}
use Rattle.whole.proofs.Lists.{listed_ext, length_listed}
use Rattle.figures.specs.{declared.Figure.Figure, Figure.angle_count, Figure.condition_count, Figure.target_of, Numerators.condition_sum}
use Rattle.pass_rules.specs.{FirstPass.should_be, FirstPass.misclosure, FirstPass.misclosures_of, Pass.given}
use Rattle.pass_steps.specs.Premises.{Angles, Within, most_summed}
use Rattle.pass_steps.specs.Steps.{fitting, sums_of}
use Rattle.pass_steps.proofs.Held.{totals_within, sums_are}
use Rattle.pass_steps.proofs.StepLaws.{listed_at, listed_within, listed_after, condition_ext}
use Rattle.pass_first.proofs.misclosures.misclosures_into.Goals as goal

-- the sums of each condition, of the angles as signed numbers
module _ (f : Figure) (angles : List ℕ) (as_many : length angles ≡ angle_count f) (few : Angles angles) where
  abbrev observed : List ℤ
  observed = listed (length angles) (given angles)

  small : Within most_summed observed
  small = listed_within (length angles) (given angles) most_summed (λ i b. omega (arith, few i))

  sums : (lent entry : List ℤ) {exit : List ℤ}
      → exit ≡ fitting (length lent) (angle_count f) (length entry) (condition_count f) (sums_of f lent) entry
      → lent ≡ observed → length entry ≡ condition_count f → exit ≡ listed (condition_count f) (condition_sum f (vector observed))
  sums lent entry made e m =
      sums_are f observed small lent entry e (ap length e ∙ length_listed (length angles) (given angles) ∙ as_many) m made

-- the sums over the conditions look at the figure's own angles
less : (f : Figure) (x : List ℤ) (angles fixed : List ℕ) → length angles ≡ angle_count f → x ≡ listed (condition_count f) (condition_sum f (vector (listed (length angles) (given angles))))
    → listed (condition_count f) (λ j. vector x j -ℤ should_be (target_of f (suc j)) fixed) ≡ misclosures_of f angles fixed
unfolding misclosure
less f x angles fixed n e =
    listed_after (condition_count f) (condition_sum f (vector (listed (length angles) (given angles)))) x (λ j z. z -ℤ should_be (target_of f (suc j)) fixed) e refl
    ∙ listed_ext (condition_count f) _ _ (λ j b. ap (λ (z : ℤ). z -ℤ should_be (target_of f (suc j)) fixed)
    (condition_ext f (vector (listed (length angles) (given angles))) (given angles) (λ i h. listed_at (length angles) (given angles) i (omega (arith, n))) j b))

pub less_targets-requires-clause-within : goal.less_targets-requires-clause-within
less_targets-requires-clause-within c =
    let own = sums c.args.figure c.args.angles.now c.requires.angles_len c.requires.angles _ _ c.condition_sums.ensures c.signed_into.ensures c.requires.w_len in
    λ j. rw own (totals_within c.args.figure _ (small c.args.figure c.args.angles.now c.requires.angles_len c.requires.angles) j)

pub returns : goal.returns
returns c =
    let own = sums c.args.figure c.args.angles.now c.requires.angles_len c.requires.angles _ _ c.condition_sums.ensures c.signed_into.ensures c.requires.w_len in
    c.less_targets.ensures ∙ less c.args.figure _ c.args.angles.now c.args.fixed.now c.requires.angles_len own
