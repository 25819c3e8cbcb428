-- A total that a loop adds up, term by term. Assumes nothing.
use Rattle.std.specs.Prelude.{◌≡◌, refl, ℕ, ◌+◌, ◌*◌, ◌≤◌, ℤ, pos, nat_abs, ◌+ℤ◌}
use Rattle.vocabulary.specs.{ap, ap₂, ◌∙◌, arith}
use Rattle.whole.specs.Sums.{sum}
use Rattle.whole.proofs.{Magnitudes.nat_abs_add, Sums.sum_more}

-- the sum of k terms, none of them beyond the most
pub record Total (most : ℕ) (f : ℕ → ℤ) (k : ℕ) (total : ℤ) : Type 0 where
  pub is : total ≡ sum k f
  pub within : nat_abs total ≤ k * most

pub total_none : (most : ℕ) (f : ℕ → ℤ) → Total most f 0 (pos 0)
unfolding sum
total_none most f = record { is = refl; within = omega arith }

pub total_more : {most k : ℕ} {f : ℕ → ℤ} {total one after : ℤ} → Total most f k total → one ≡ f k → nat_abs one ≤ most
    → after ≡ total +ℤ one → Total most f (k + 1) after
total_more {most} {k} {f} {total} {one} h e small made = rw made (record {
  is = ap₂ ◌+ℤ◌ h.is e ∙ sum_more k f;
  within = omega (arith, nat_abs_add total one, h.within);
})

pub total_all : {most k n : ℕ} {f : ℕ → ℤ} {total : ℤ} → Total most f k total → k ≡ n → total ≡ sum n f
total_all {f = f} h e = h.is ∙ ap (λ (m : ℕ). sum m f) e
