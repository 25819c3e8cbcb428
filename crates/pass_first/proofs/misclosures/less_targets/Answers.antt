use Rattle.std.specs.Prelude.{◌≡◌, List, ℕ, suc, ◌≤◌, ℤ, ◌-ℤ◌, nat_abs}
use Rattle.std.proofs.Common.{arith, rules, ap₂, ◌∙◌, FitsSigned, w32, to_z, of_z, to_z-of_z}
use Rattle.vocabulary.specs.{le_refl}
use Rattle.whole.specs.Sums.{vector}
use Rattle.whole.proofs.{Lists.replaced_more, Lists.filled_all, Magnitudes.nat_abs_sub, Magnitudes.magnitude_fits}
use Rattle.figures.specs.{Figure.Target, Figure.target_of}
use Rattle.pass_rules.specs.FirstPass.{should_be}
use Rattle.pass_steps.specs.Premises.{Angles, most_total}
use Rattle.pass_first.proofs.FirstSteps.{target_small}
use Rattle.pass_first.proofs.misclosures.less_targets.Goals as goal

-- a sum less its target, of a figure's condition
module _ (total : ℤ) (fixed : List ℕ) (t : Target) (few : nat_abs total ≤ most_total) (small : Angles fixed) where
  fits_less : FitsSigned w32 (total -ℤ should_be t fixed)
  fits_less = magnitude_fits w32 _ (omega (arith, nat_abs_sub total (should_be t fixed), few, target_small fixed small t))

  -- as the machine reads both
  less : {sum target : ℤ} → FitsSigned w32 sum → FitsSigned w32 target → sum ≡ total → target ≡ should_be t fixed
      → to_z w32 (of_z w32 sum) -ℤ to_z w32 (of_z w32 target) ≡ total -ℤ should_be t fixed
  less f g e h = ap₂ ◌-ℤ◌ (to_z-of_z f ∙ e) (to_z-of_z g ∙ h)

pub overflow_sub-misclosure : goal.overflow_sub-misclosure
overflow_sub-misclosure c =
    let j = c.loop-j.j in
    let small = c.requires.within j in
    let own = less (vector c.args.w.now j) c.args.fixed.now (target_of c.args.figure (suc j)) small c.requires.angles (search rules) (search rules) (c.loop-j.invariant.left j (le_refl j)) c.should_be.ensures in
    rw own (fits_less (vector c.args.w.now j) c.args.fixed.now (target_of c.args.figure (suc j)) small c.requires.angles)

pub loop-j-preserved : goal.loop-j-preserved
loop-j-preserved c =
    let j = c.loop-j.j in
    let small = c.requires.within j in
    let own = less (vector c.args.w.now j) c.args.fixed.now (target_of c.args.figure (suc j)) small c.requires.angles (search rules) (search rules) (c.loop-j.invariant.left j (le_refl j)) c.should_be.ensures in
    replaced_more c.loop-j.invariant (omega arith)
    (rw own (to_z-of_z (fits_less (vector c.args.w.now j) c.args.fixed.now (target_of c.args.figure (suc j)) small c.requires.angles)))

pub returns : goal.returns
returns c = filled_all c.loop-j.invariant.filled (omega arith)
