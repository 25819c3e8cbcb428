use Rattle.std.specs.Prelude.{◌≡◌, ◌≤◌, ℤ, ◌+ℤ◌, nat_abs}
use Rattle.std.proofs.Common.{arith, rules, ap₂, ◌∙◌, FitsSigned, w32, to_z, of_z, to_z-of_z}
use Rattle.std.proofs.lemmas.Int.{ints}
use Rattle.vocabulary.specs.{le_refl}
use Rattle.whole.specs.Sums.{vector}
use Rattle.whole.proofs.{Lists.replaced_more, Lists.filled_all, Magnitudes.nat_abs_add, Magnitudes.magnitude_fits}
use Rattle.refusals.specs.Ranges.{most_limit}
use Rattle.pass_steps.specs.Premises.{most_total}
use Rattle.pass_first.proofs.corrections.add_misclosures.Goals as goal

module _ (misclosure total : ℤ) (small : nat_abs misclosure ≤ most_limit) (few : nat_abs total ≤ most_total) where
  fits_sum : FitsSigned w32 (misclosure +ℤ total)
  fits_sum = magnitude_fits w32 _ (omega (arith, nat_abs_add misclosure total, small, few))

  -- as the machine reads both
  both : {rest : ℤ} → FitsSigned w32 rest → FitsSigned w32 misclosure → rest ≡ total
      → to_z w32 (of_z w32 rest) +ℤ to_z w32 (of_z w32 misclosure) ≡ misclosure +ℤ total
  both f g e =
      let turned : total +ℤ misclosure ≡ misclosure +ℤ total = omega (arith, ints) in
      ap₂ ◌+ℤ◌ (to_z-of_z f ∙ e) (to_z-of_z g) ∙ turned

pub overflow_add-rest : goal.overflow_add-rest
overflow_add-rest c =
    let j = c.loop-j.j in
    let own = both (vector c.args.w.now j) (vector c.args.rests.now j) (c.requires.within j) (c.requires.within_2 j) (search rules) (search rules) (c.loop-j.invariant.left j (le_refl j)) in
    rw own (fits_sum (vector c.args.w.now j) (vector c.args.rests.now j) (c.requires.within j) (c.requires.within_2 j))

pub loop-j-preserved : goal.loop-j-preserved
loop-j-preserved c =
    let j = c.loop-j.j in
    let own = both (vector c.args.w.now j) (vector c.args.rests.now j) (c.requires.within j) (c.requires.within_2 j) (search rules) (search rules) (c.loop-j.invariant.left j (le_refl j)) in
    replaced_more c.loop-j.invariant (omega arith)
    (rw own (to_z-of_z (fits_sum (vector c.args.w.now j) (vector c.args.rests.now j) (c.requires.within j) (c.requires.within_2 j))))

pub returns : goal.returns
returns c = filled_all c.loop-j.invariant.filled (omega arith)
