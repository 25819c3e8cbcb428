-- Where number 7 passes, a rounded correction is the difference of two angles. Assumes nothing.
use Rattle.std.specs.Prelude.{Ok}
use Rattle.std.specs.Prelude.{◌≡◌, List, ℕ, ◌≤◌, ◌<◌, ℤ, pos, nat_abs, ◌+ℤ◌, ◌-ℤ◌, length}
use Rattle.vocabulary.specs.{sym, subst, zero-le, dec_lt, arith, list-get_or_eq_default}
use Rattle.whole.specs.Sums.{vector}
use Rattle.whole.proofs.{Lists.length_listed, Magnitudes.nat_abs_sub, Ring.ring, Ring.◌≐◌, Ring.◌⊕◌, Ring.◌⊖◌}
use Rattle.refusals.specs.{Order.verdict_of, Table.results_row}
use Rattle.judging.specs.Searches.{results_of}
use Rattle.pass_rules.specs.Pass.{given}
use Rattle.pass_steps.specs.Premises.{Within, Angles, most_summed}
use Rattle.pass_steps.proofs.{Judged.results_in_range, Judged.result_most, StepLaws.listed_at}

module _ (angles : List ℕ) (tenths : List ℤ) (as_many : length tenths ≡ length angles) (small : Angles angles)
    (passed : verdict_of (results_row (results_of angles tenths)) ≡ Ok tt) where
  result_at : (i : ℕ) → i < length angles → vector (results_of angles tenths) i ≡ given angles i +ℤ vector tenths i
  result_at i h = listed_at (length angles) (λ k. given angles k +ℤ vector tenths k) i h

  pub passed_small : Within most_summed tenths
  passed_small i = go (dec_lt i (length angles))
    where
      go : Dec (i < length angles) → nat_abs (vector tenths i) ≤ most_summed
      go (yes h) =
          let within = results_in_range (results_of angles tenths) passed i (subst (λ (n : ℕ). i < n) (sym (length_listed (length angles) (λ k. given angles k +ℤ vector tenths k))) h) in
          let most = subst (λ (z : ℤ). nat_abs z ≤ 6479999) (result_at i h) (result_most (vector (results_of angles tenths) i) within.0 within.1) in
          let apart : vector tenths i ≡ given angles i +ℤ vector tenths i -ℤ given angles i = ring 2 (λ a r. r ≐ a ⊕ r ⊖ a) tt (given angles i) (vector tenths i) in
          subst (λ (z : ℤ). nat_abs z ≤ most_summed) (sym apart) (omega (arith, nat_abs_sub (given angles i +ℤ vector tenths i) (given angles i), most, small i))
      go (no h) = subst (λ (z : ℤ). nat_abs z ≤ most_summed) (sym (list-get_or_eq_default tenths (pos 0) {n = i} (omega (arith, as_many)))) zero-le
