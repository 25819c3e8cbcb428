-- The lists of a worked sheet, by the index: each is what the definitions give, and so are the numbers among each other. Assumes nothing.
use Rattle.std.specs.Prelude.{ℕ, ◌<◌, Bool, true, false, cond, List, ◌≡◌, refl, ℤ, pos, negsuc, neg_ℤ, nat_abs, ◌+ℤ◌, ◌*ℤ◌, get_or, ◌≤ℤ◌}
use Rattle.vocabulary.specs.{sym, ap, ap₂, ◌∙◌}
use Rattle.whole.specs.{Lists.listed, Sums.squares, Sums.vector, Sums.naturals}
use Rattle.whole.proofs.{Lists.get_or_listed, Sums.squares_ext}
use Rattle.wide_words.specs.Words.{joined}
use Rattle.refusals.specs.Ranges.{least_angle}
use Rattle.figures.specs.{declared.Figure.Figure, Figure.denominator, Figure.angle_count, Figure.condition_count, Figure.has_side}
use Rattle.figures.specs.Numerators.{condition_sum, numerator}
use Rattle.figures.proofs.Theorem.{condition_agrees, numerator_agrees}
use Rattle.pass_rules.specs.Pass.{given}
use Rattle.pass_rules.specs.FirstPass.{misclosure, first_numerator, first_rounded, corrected, first_rest, misclosures_of, numerators_of, rounded_of, corrected_of, rests_of}
use Rattle.pass_rules.specs.SecondPass.{SineEntries, second_reduced, side_reduced, sine_misclosure, side_misclosure, sum_of_squares, side_squares, shared_products, divisor, second_numerator, second_rounded, second_adjusted, second_rest, reduced_of, side_reduced_of, high_numerators_of, low_numerators_of, second_rounded_of, adjusted_of, second_rests_of}
use Rattle.pass_rules.proofs.SecondLaws.{numerator_of_one_lem, divisor_of_one, numerator_of_two_lem, divisor_of_both}
use Rattle.lines.proofs.WideNumbers.{wide_listed}
use Rattle.demands.specs.Demand2.{determinant_of, exact_of_two}
use Rattle.demands.proofs.BothSines.{determinant_agrees, exact_agrees}

module _ (f : Figure) where
  by_angle : (g : ℕ → ℤ) (i : ℕ) → i < angle_count f → vector (listed (angle_count f) g) i ≡ g i
  by_angle g i h = get_or_listed (angle_count f) g i (pos 0) h

  by_condition : (g : ℕ → ℤ) (j : ℕ) → j < condition_count f → vector (listed (condition_count f) g) j ≡ g j
  by_condition g j h = get_or_listed (condition_count f) g j (pos 0) h

  -- a result that is stored is within range, so it is its own magnitude
  own_magnitude : (z : ℤ) → pos least_angle ≤ℤ z → pos (nat_abs z) ≡ z
  own_magnitude (pos n) least = refl
  own_magnitude (negsuc n) least = absurd least.le

  result : (g : ℕ → ℤ) (i : ℕ) → i < angle_count f → pos least_angle ≤ℤ g i → naturals (listed (angle_count f) (λ k. nat_abs (g k))) i ≡ g i
  result g i h least = ap pos (get_or_listed (angle_count f) (λ k. nat_abs (g k)) i 0 h) ∙ own_magnitude (g i) least

  -- ---- the first pass

  module _ (angles fixed : List ℕ) where
    pub first_misclosures : (j : ℕ) → j < condition_count f → vector (misclosures_of f angles fixed) j ≡ misclosure f angles fixed j
    first_misclosures = by_condition (misclosure f angles fixed)

    pub first_numerators : (i : ℕ) → i < angle_count f
        → vector (numerators_of f angles fixed) i ≡ numerator f (vector (misclosures_of f angles fixed)) i
    unfolding first_numerator
    first_numerators i h =
        by_angle (first_numerator f angles fixed) i h
        ∙ numerator_agrees f (misclosure f angles fixed) (vector (misclosures_of f angles fixed))
        (λ j b. sym (by_condition (misclosure f angles fixed) j b)) i

    pub first_rests : (j : ℕ) → j < condition_count f
        → vector (misclosures_of f angles fixed) j +ℤ condition_sum f (vector (rounded_of f angles fixed)) j
        ≡ vector (rests_of f angles fixed) j
    unfolding first_rest
    first_rests j h =
        ap₂ ◌+ℤ◌ (by_condition (misclosure f angles fixed) j h)
        (condition_agrees f (vector (rounded_of f angles fixed)) (first_rounded f angles fixed) (by_angle (first_rounded f angles fixed)) j h)
        ∙ sym (by_condition (first_rest f angles fixed) j h)

    pub first_results : (i : ℕ) → i < angle_count f → pos least_angle ≤ℤ corrected f angles fixed i
        → naturals angles i +ℤ vector (rounded_of f angles fixed) i ≡ naturals (corrected_of f angles fixed) i
    unfolding corrected
    first_results i h least =
        ap (λ (z : ℤ). given angles i +ℤ z) (by_angle (first_rounded f angles fixed) i h) ∙ sym (result (corrected f angles fixed) i h least)

  -- ---- the second pass

  module _ (e : SineEntries) where
    abbrev pub A : ℕ → ℤ
    A = vector (reduced_of f e)

    abbrev pub B : ℕ → ℤ
    B = vector (side_reduced_of f e)

    abbrev pub exact : ℕ → ℤ
    exact = vector (listed (angle_count f) (second_numerator f e))

    pub second_numerators : (i : ℕ) → i < angle_count f → exact i ≡ second_numerator f e i
    second_numerators = by_angle (second_numerator f e)

    -- the words of the slices join to them
    pub joined_numerators : (i : ℕ) → joined (vector (high_numerators_of f e) i) (get_or (low_numerators_of f e) i 0) ≡ exact i
    joined_numerators i = ap (λ (g : ℕ → ℤ). g i) (wide_listed (angle_count f) (second_numerator f e))

    pub reduced_at : (i : ℕ) → i < angle_count f → A i ≡ second_reduced f e i
    reduced_at = by_angle (second_reduced f e)

    module _ (one : has_side f ≡ false) where
      pub one_squares : divisor f e ≡ squares (angle_count f) A
      unfolding sum_of_squares
      one_squares = divisor_of_one f e one ∙ sym (squares_ext (angle_count f) A (second_reduced f e) reduced_at)

      pub one_numerators : (i : ℕ) → i < angle_count f → exact i ≡ neg_ℤ (pos 100) *ℤ pos (denominator f) *ℤ A i *ℤ sine_misclosure f e
      one_numerators i h =
          second_numerators i h
          ∙ numerator_of_one_lem f e one i
          ∙ ap (λ (z : ℤ). neg_ℤ (pos 100) *ℤ pos (denominator f) *ℤ z *ℤ sine_misclosure f e) (sym (reduced_at i h))

    module _ (both : has_side f ≡ true) where
      pub side_reduced_at : (i : ℕ) → i < angle_count f → B i ≡ side_reduced f e i
      side_reduced_at i h =
          ap (λ (b : Bool). vector (listed (cond b (angle_count f) 0) (side_reduced f e)) i) both ∙ by_angle (side_reduced f e) i h

      pub two_determinant : divisor f e ≡ determinant_of f A B
      unfolding sum_of_squares side_squares shared_products
      two_determinant =
          divisor_of_both f e both ∙ sym (determinant_agrees f A B (second_reduced f e) (side_reduced f e) reduced_at side_reduced_at)

      pub two_numerators : (i : ℕ) → i < angle_count f → exact i ≡ exact_of_two f A B (sine_misclosure f e) (side_misclosure f e) i
      unfolding sum_of_squares side_squares shared_products
      two_numerators i h =
          second_numerators i h
          ∙ numerator_of_two_lem f e both i
          ∙ sym (exact_agrees f A B (second_reduced f e) (side_reduced f e) reduced_at side_reduced_at refl refl i h)

    pub second_rests : (j : ℕ) → j < condition_count f
        → condition_sum f (vector (second_rounded_of f e)) j ≡ vector (second_rests_of f e) j
    unfolding second_rest
    second_rests j h =
        condition_agrees f (vector (second_rounded_of f e)) (second_rounded f e) (by_angle (second_rounded f e)) j h
        ∙ sym (by_condition (second_rest f e) j h)

    pub second_results : (angles : List ℕ) (i : ℕ) → i < angle_count f → pos least_angle ≤ℤ second_adjusted f angles e i
        → naturals angles i +ℤ vector (second_rounded_of f e) i ≡ naturals (adjusted_of f angles e) i
    unfolding second_adjusted
    second_results angles i h least =
        ap (λ (z : ℤ). given angles i +ℤ z) (by_angle (second_rounded f e) i h) ∙ sym (result (second_adjusted f angles e) i h least)
