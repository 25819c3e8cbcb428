-- A total that a loop adds up, term by term, within its width. Assumes nothing.
use Rattle.std.specs.Prelude.{◌≡◌, refl, ℕ, ◌+◌, ◌*◌, ◌^◌, ◌≤◌, ◌<◌, ℤ, pos, nat_abs, ◌+ℤ◌}
use Rattle.vocabulary.specs.{ap₂, ◌∙◌, lt_of_le_of_lt, arith, Width, SFits, to_z, of_z, hbits, to_z-of_z}
use Rattle.whole.specs.Sums.{sum}
use Rattle.whole.proofs.{Magnitudes.nat_abs_add, Magnitudes.magnitude_fits, Sums.sum_more}

pub sum_none : (f : ℕ → ℤ) → sum 0 f ≡ pos 0
unfolding sum
sum_none f = refl

-- a sum that a loop adds up
pub ruleset sums = (sum_none, sum_more)

-- one more term, added to the total of those before it
pub record More (w : Width) (most : ℕ) (f : ℕ → ℤ) (k : ℕ) (total : ℤ) : Type 0 where
  pub fits : SFits w total
  pub total_is : to_z w (of_z w total) ≡ sum (k + 1) f
  pub within : nat_abs (to_z w (of_z w total)) ≤ (k + 1) * most

pub more : (w : Width) (most : ℕ) (f : ℕ → ℤ) (k : ℕ) (total one : ℤ) → (k + 1) * most < 2 ^ hbits w
    → total ≡ sum k f → nat_abs total ≤ k * most → one ≡ f k → nat_abs one ≤ most → More w most f k (total +ℤ one)
more w most f k total one few sum_is_lem within one_is small = record {
  fits = fits;
  total_is = to_z-of_z fits ∙ ap₂ ◌+ℤ◌ sum_is_lem one_is ∙ sum_more k f;
  within = rw (to_z-of_z fits) together;
}
  where
    together : nat_abs (total +ℤ one) ≤ (k + 1) * most
    together = omega (arith, nat_abs_add total one)

    fits : SFits w (total +ℤ one)
    fits = magnitude_fits w (total +ℤ one) (lt_of_le_of_lt together few)
