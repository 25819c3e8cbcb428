-- The steps of the second pass, from the sums of both sine conditions and the reduced coefficients: what they give is what the definitions
-- say. A correction that is clamped leaves number 7 as it is, and where number 7 passes none is clamped. Assumes nothing.
use Rattle.std.specs.Prelude.{Ok}
use Rattle.std.specs.Prelude.{Bool, true, false, cond, ◌||◌, ◌≡◌, refl, List, ℕ, zero, suc, ◌≤◌, ◌<◌, eqb, ℤ, pos, nat_abs, ◌+ℤ◌, ◌-ℤ◌}
use Rattle.std.specs.Prelude.{◌*ℤ◌, length, ◌≤ℤ◌}
use Rattle.vocabulary.specs.{sym, ap, ap₂, ◌∙◌, arith}
use Rattle.whole.specs.{Lists.listed, Quotient.rounded_quotient, Sums.vector}
use Rattle.whole.proofs.{Lists.length_listed, Lists.listed_ext, Magnitudes.nat_abs_sub, Ring.ring, Ring.◌≐◌, Ring.◌⊕◌, Ring.◌⊖◌}
use Rattle.wide_words.specs.Words.{high_word, low_word}
use Rattle.refusals.specs.{Numbers.numbered, Numbers.refusal_of, Ranges.least_angle, Ranges.most_angle}
use Rattle.refusals.specs.{Order.fails_at, Order.or_here, Order.lowest_place, Order.verdict_of, Questions.asked, Questions.outside_signed}
use Rattle.refusals.specs.Table.{results_row}
use Rattle.refusals.proofs.{Decided.not_less_signed, Rows.row_passes}
use Rattle.judging.specs.Searches.{results_of}
use Rattle.figures.specs.{declared.Figure.Figure, Numerators.condition_sum}
use Rattle.figures.specs.Figure.{denominator, angle_count, condition_count, has_side, side_count}
use Rattle.pass_pair.specs.{declared.Pair.Pair, Pair.determinant, Pair.pair_numerator, Pair.clamped}
use Rattle.pass_pair.proofs.Clamping.{outside_angles, clamped_outside, clamped_inside}
use Rattle.pass_rules.specs.{Pass.given, Promises.second_lent, Promises.second_values_of}
use Rattle.pass_rules.specs.SecondPass.{SineEntries, second_reduced, side_reduced, sine_misclosure, side_misclosure, sum_of_squares, side_squares, shared_products, divisor, tenths_factor, second_numerator, second_rounded, second_adjusted, second_rest, reduced_of, side_reduced_of, high_numerators_of, low_numerators_of, second_rounded_of, adjusted_of, second_rests_of}
use Rattle.pass_rules.proofs.SecondLaws.{numerator_of_one_lem, numerator_of_two_lem, divisor_of_one, divisor_of_both, divisor_natural}
use Rattle.pass_rules.proofs.{SideCounts.sides_tell, WithinRange.result_within, WithinRange.angle_most}
use Rattle.pass_steps.specs.{Premises.Angles, Premises.most_summed, Steps.results_from}
use Rattle.pass_steps.proofs.StepLaws.{listed_at, listed_after, condition_ext}
use Rattle.pass_second.specs.Sines.{pair_of}
use Rattle.pass_second.specs.Steps.{exact_from, divisor_from, highs_from, lows_from, tenths_from, with_rounds, second_from}
use Rattle.pass_second.proofs.SumSteps.{both_reduced}

-- ---- number 7 asks of each result only whether it is outside

lowest_ext : (fails falls : ℕ → Bool) (n : ℕ) → ((i : ℕ) → i < n → fails (suc i) ≡ falls (suc i))
    → lowest_place fails n ≡ lowest_place falls n
unfolding lowest_place
lowest_ext fails falls zero same = refl
lowest_ext fails falls (suc n) same =
    ap₂ (λ found here. or_here found here (suc n)) (lowest_ext fails falls n (λ i h. same i (omega arith))) (same n (omega arith))

abbrev outside_at : (results : List ℤ) → ℕ → Bool
outside_at results p = asked (outside_signed (pos least_angle) (pos most_angle) (numbered results p (pos 0)))

results_alike : (n : ℕ) (x y : ℕ → ℤ) → ((i : ℕ) → i < n → outside_angles (x i) ≡ outside_angles (y i))
    → verdict_of (results_row (listed n x)) ≡ verdict_of (results_row (listed n y))
results_alike n x y same =
    ap (fails_at (refusal_of 7))
    (ap (lowest_place (outside_at (listed n x))) (length_listed n x)
    ∙ lowest_ext (outside_at (listed n x)) (outside_at (listed n y)) n
    (λ i h. ap outside_angles (listed_at n x i h) ∙ same i h ∙ sym (ap outside_angles (listed_at n y i h)))
    ∙ sym (ap (lowest_place (outside_at (listed n y))) (length_listed n y)))

inside : (z : ℤ) → pos least_angle ≤ℤ z → z ≤ℤ pos most_angle → outside_angles z ≡ false
inside z low high = ap₂ ◌||◌ ((not_less_signed z (pos least_angle)).1 low) ((not_less_signed (pos most_angle) z).1 high)

-- ---- from any sums and reduced coefficients

module _ (D sides : ℕ) (p : Pair) (a b : List ℤ) where
  -- a correction before it is clamped
  abbrev pub rounded_from : ℕ → ℤ
  rounded_from i = rounded_quotient (exact_from D sides p a b i) (nat_abs (divisor_from sides p))

  abbrev tenths : ℕ → ℤ
  tenths i = clamped (rounded_from i)

  module _ (angles : List ℕ) (as_many : length angles ≡ length a) (small : Angles angles) where
    abbrev result : ℕ → ℤ
    result i = given angles i +ℤ tenths i

    abbrev unclamped : ℕ → ℤ
    unclamped i = given angles i +ℤ rounded_from i

    results_listed : results_of angles (tenths_from D sides p a b) ≡ listed (length a) result
    results_listed = listed_after (length a) tenths (tenths_from D sides p a b) (λ i z. given angles i +ℤ z) refl as_many

    -- the clamp does not change which angle is outside
    pub results_unclamped : verdict_of (results_row (results_of angles (tenths_from D sides p a b)))
        ≡ verdict_of (results_row (listed (length a) unclamped))
    results_unclamped =
        ap (λ (l : List ℤ). verdict_of (results_row l)) results_listed
        ∙ results_alike (length a) result unclamped (λ i h. clamped_outside _ (small i) (rounded_from i))

    module _ (passed : verdict_of (results_row (results_of angles (tenths_from D sides p a b))) ≡ Ok tt) where
      -- a correction is the difference of two angles
      difference_most : (i : ℕ) → i < length a → nat_abs (tenths i) ≤ most_summed
      difference_most i h =
          let in_range = sym (ap (λ (l : List ℤ). verdict_of (results_row l)) results_listed) ∙ passed in
          let within = result_within (length a) result i h (row_passes (results_row (listed (length a) result)) in_range) in
          let apart : tenths i ≡ result i -ℤ given angles i = ring 2 (λ a r. r ≐ a ⊕ r ⊖ a) tt (given angles i) (tenths i) in
          rw apart (omega (arith, nat_abs_sub (result i) (given angles i), angle_most (result i) within.0 within.1, small i))

      -- and none is clamped
      pub tenths_unclamped : tenths_from D sides p a b ≡ listed (length a) rounded_from
      tenths_unclamped =
          let none = row_passes (results_row (listed (length a) unclamped)) (sym results_unclamped ∙ passed) in
          listed_ext (length a) tenths rounded_from
          (λ i h. let within = result_within (length a) unclamped i h none in
          clamped_inside _ (small i) (rounded_from i) (inside (unclamped i) within.0 within.1))

-- ---- from those of the definitions

module _ (f : Figure) (e : SineEntries) where
  abbrev sides : ℕ
  sides = side_count f

  abbrev p : Pair
  p = pair_of f e

  abbrev a : List ℤ
  a = reduced_of f e

  abbrev b : List ℤ
  b = side_reduced_of f e

  count : length a ≡ angle_count f
  count = length_listed (angle_count f) (second_reduced f e)

  -- S, or the determinant
  pub divisor_is : divisor_from sides p ≡ divisor f e
  divisor_is = go (has_side f) refl
    where
      go : (t : Bool) → has_side f ≡ t → divisor_from sides p ≡ divisor f e
      go true both =
          let test : eqb sides 0 ≡ false = sides_tell f ∙ ap (λ (t : Bool). cond t false true) both in
          (λ k. cond (test k) (sum_of_squares f e)
          (determinant (sum_of_squares f e) (cond (both k) (shared_products f e) (pos 0)) (cond (both k) (side_squares f e) (pos 0))))
          ∙ sym (divisor_of_both f e both)
      go false one =
          let test : eqb sides 0 ≡ true = sides_tell f ∙ ap (λ (t : Bool). cond t false true) one in
          ap (λ (t : Bool). cond t p.aa (determinant p.aa p.ab p.bb)) test ∙ sym (divisor_of_one f e one)

  pub divisor_from_natural : pos 0 ≤ℤ divisor_from sides p
  divisor_from_natural = rw divisor_is (divisor_natural f e)

  pub exact_at : (i : ℕ) → i < angle_count f → exact_from (denominator f) sides p a b i ≡ second_numerator f e i
  exact_at i h = go (has_side f) refl
    where
      a_at : vector a i ≡ second_reduced f e i
      a_at = listed_at (angle_count f) (second_reduced f e) i h

      b_at : has_side f ≡ true → vector b i ≡ side_reduced f e i
      b_at both = ap (λ (l : List ℤ). vector l i) (both_reduced f e both) ∙ listed_at (angle_count f) (side_reduced f e) i h

      go : (t : Bool) → has_side f ≡ t → exact_from (denominator f) sides p a b i ≡ second_numerator f e i
      go true both =
          let test : eqb sides 0 ≡ false = sides_tell f ∙ ap (λ (t : Bool). cond t false true) both in
          (λ k. cond (test k) (tenths_factor f *ℤ vector a i *ℤ sine_misclosure f e)
          (pair_numerator (tenths_factor f) (sum_of_squares f e) (cond (both k) (shared_products f e) (pos 0))
          (cond (both k) (side_squares f e) (pos 0)) (sine_misclosure f e) (side_misclosure f e) (a_at k) (b_at both k)))
          ∙ sym (numerator_of_two_lem f e both i)
      go false one =
          let test : eqb sides 0 ≡ true = sides_tell f ∙ ap (λ (t : Bool). cond t false true) one in
          (λ k. cond (test k) (tenths_factor f *ℤ a_at k *ℤ sine_misclosure f e)
          (pair_numerator (tenths_factor f) p.aa p.ab p.bb p.wa p.wb (vector a i) (vector b i)))
          ∙ sym (numerator_of_one_lem f e one i)

  pub highs_same : highs_from (denominator f) sides p a b ≡ high_numerators_of f e
  highs_same =
      ap (λ (n : ℕ). listed n (λ i. high_word (exact_from (denominator f) sides p a b i))) count
      ∙ listed_ext (angle_count f) _ _ (λ i h. ap high_word (exact_at i h))

  pub lows_same : lows_from (denominator f) sides p a b ≡ low_numerators_of f e
  lows_same =
      ap (λ (n : ℕ). listed n (λ i. low_word (exact_from (denominator f) sides p a b i))) count
      ∙ listed_ext (angle_count f) _ _ (λ i h. ap low_word (exact_at i h))

  rounded_at : (i : ℕ) → i < angle_count f → rounded_from (denominator f) sides p a b i ≡ second_rounded f e i
  unfolding second_rounded
  rounded_at i h = ap₂ (λ (x y : ℤ). rounded_quotient x (nat_abs y)) (exact_at i h) divisor_is

  module _ (angles : List ℕ) (as_many : length angles ≡ angle_count f) (small : Angles angles) where
    as_reduced : length angles ≡ length a
    as_reduced = as_many ∙ sym count

    adjusted_at : (i : ℕ) → i < angle_count f → given angles i +ℤ rounded_from (denominator f) sides p a b i ≡ second_adjusted f angles e i
    unfolding second_adjusted
    adjusted_at i h = ap (λ (z : ℤ). given angles i +ℤ z) (rounded_at i h)

    pub results_same : verdict_of (results_row (results_of angles (tenths_from (denominator f) sides p a b)))
        ≡ verdict_of (results_row (listed (angle_count f) (second_adjusted f angles e)))
    results_same =
        results_unclamped (denominator f) sides p a b angles as_reduced small
        ∙ ap (λ (l : List ℤ). verdict_of (results_row l))
        (ap (λ (n : ℕ). listed n (λ i. given angles i +ℤ rounded_from (denominator f) sides p a b i)) count
        ∙ listed_ext (angle_count f) _ (second_adjusted f angles e) adjusted_at)

    module _ (passed : verdict_of (results_row (results_of angles (tenths_from (denominator f) sides p a b))) ≡ Ok tt) where
      tenths_same : tenths_from (denominator f) sides p a b ≡ second_rounded_of f e
      tenths_same =
          tenths_unclamped (denominator f) sides p a b angles as_reduced small passed
          ∙ ap (λ (n : ℕ). listed n (rounded_from (denominator f) sides p a b)) count
          ∙ listed_ext (angle_count f) _ (second_rounded f e) rounded_at

      adjusted_same : results_from angles (tenths_from (denominator f) sides p a b) ≡ adjusted_of f angles e
      unfolding second_adjusted
      adjusted_same =
          listed_after (angle_count f) (second_adjusted f angles e) (results_of angles (tenths_from (denominator f) sides p a b))
          (λ i z. nat_abs z)
          (listed_after (angle_count f) (second_rounded f e) (tenths_from (denominator f) sides p a b) (λ i z. given angles i +ℤ z)
          tenths_same as_many) as_many

      rests_same : listed (condition_count f) (condition_sum f (vector (tenths_from (denominator f) sides p a b))) ≡ second_rests_of f e
      unfolding second_rest
      rests_same =
          ap (λ (l : List ℤ). listed (condition_count f) (condition_sum f (vector l))) tenths_same
          ∙ listed_ext (condition_count f) _ _ (condition_ext f _ (second_rounded f e) (listed_at (angle_count f) (second_rounded f e)))

      pub values_same : (rounds : List ℕ) → with_rounds (second_from f angles sides p a b) rounds ≡ second_values_of f angles rounds e
      values_same rounds = λ k. second_lent a b (highs_same k) (lows_same k) (tenths_same k) (adjusted_same k) rounds (rests_same k)
