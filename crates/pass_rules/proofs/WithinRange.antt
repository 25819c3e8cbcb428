-- What rows 6 and 7 say, where they hold nowhere, of values that are listed by a rule; and L or e in force. Assumes nothing.
use Rattle.std.specs.Prelude.{ℕ, zero, suc, ◌≤◌, ◌<◌, ℤ, pos, negsuc, nat_abs, ◌≤ℤ◌}
use Rattle.vocabulary.specs.{sym, subst, leb→le}
use Rattle.whole.specs.Lists.{listed}
use Rattle.whole.proofs.Lists.{length_listed, get_or_listed}
use Rattle.refusals.specs.{Order.HoldsNowhere, Ranges.least_angle, Ranges.most_angle, Table.misclosures_row, Table.results_row}
use Rattle.refusals.proofs.Nowhere.{misclosures_within, results_within, between}
use Rattle.pass_rules.specs.Pass.{in_force}

module _ (n : ℕ) (g : ℕ → ℤ) (i : ℕ) (h : i < n) where
  pub misclosure_within : (limit : ℕ) → HoldsNowhere (misclosures_row limit (listed n g)) → nat_abs (g i) ≤ limit
  misclosure_within limit none =
      let within = misclosures_within limit (listed n g) none i (subst (λ (k : ℕ). i < k) (sym (length_listed n g)) h) in
      subst (λ (z : ℤ). nat_abs z ≤ limit) (get_or_listed n g i (pos 0) h) (between limit _ within.0 within.1)

  pub result_within : HoldsNowhere (results_row (listed n g)) → (pos least_angle ≤ℤ g i) × (g i ≤ℤ pos most_angle)
  result_within none =
      subst (λ (z : ℤ). (pos least_angle ≤ℤ z) × (z ≤ℤ pos most_angle)) (get_or_listed n g i (pos 0) h)
      (results_within (listed n g) none i (subst (λ (k : ℕ). i < k) (sym (length_listed n g)) h))

pub angle_most : (z : ℤ) → pos least_angle ≤ℤ z → z ≤ℤ pos most_angle → nat_abs z ≤ most_angle
angle_most (pos n) low high = leb→le n most_angle high.le
angle_most (negsuc n) low high = absurd low.le

-- L or e in force stays in range where the default is
pub in_force_within : (default most value : ℕ) → default ≤ most → value ≤ most → in_force default value ≤ most
in_force_within default most zero d h = d
in_force_within default most (suc value) d h = h
