-- Rows that are applied part by part. Assumes nothing.
use Rattle.std.specs.Prelude.{List, ◌≡◌, ℕ, ◌≤◌, ◌<◌, ℤ, length, min, take}
use Rattle.vocabulary.specs.{sym, ap, ◌∙◌, dec_lt, arith, take_all, take-take}
use Rattle.whole.specs.Lists.{listed}
use Rattle.whole.proofs.Lists.{length_listed}
use Rattle.pass_steps.specs.Steps.{AppliedTo}

module _ (n i : ℕ) (rule : ℕ → ℤ) (l : List ℤ) (done : AppliedTo i n rule l) where
  -- what holds of so many holds of fewer
  pub fewer : (k : ℕ) → k ≤ i → AppliedTo k n rule l
  fewer k few = sym (take-take k i l few) ∙ ap (take k) done ∙ take-take k i (listed n rule) few

  -- past the last there is nothing left
  pub all_applied : length l ≡ n → n ≤ i → l ≡ listed n rule
  all_applied size past = sym (take_all i l (omega (arith, size))) ∙ done ∙ take_all i (listed n rule) (omega (arith, length_listed n rule))

  -- so many are done, or all that there are
  pub enough : length l ≡ n → (k : ℕ) → min n k ≤ i → AppliedTo k n rule l
  enough size k far = by (dec_lt i k)
    where
      by : Dec (i < k) → AppliedTo k n rule l
      by (yes b) = ap (take k) (all_applied size (omega arith))
      by (no b) = fewer k (omega arith)
