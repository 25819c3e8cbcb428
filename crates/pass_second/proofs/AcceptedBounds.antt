-- How large the numbers of an accepted second pass are: its misclosures, its coefficients, S or the determinant, and its numerators.
-- Assumes nothing.
use Rattle.std.specs.Prelude.{Bool, true, false, cond, List, ℕ, ◌*◌, ◌^◌, ◌≤◌, ◌<◌, ℤ, pos, neg_ℤ, nat_abs, ◌*ℤ◌}
use Rattle.vocabulary.specs.{le_refl, le_trans, lt_of_le_of_lt, mul-le-mul_right, lit<}
use Rattle.whole.specs.Sums.{dot}
use Rattle.whole.proofs.{Ring.◌⊕◌, Ring.◌⊖◌, Ring.◌⊗◌, Sums.sum_magnitude}
use Rattle.wide.proofs.Bounds.{magnitude_reaches}
use Rattle.pass_pair.specs.Pair.{determinant}
use Rattle.refusals.specs.Ranges.{most_difference}
use Rattle.figures.specs.declared.Figure.{Figure}
use Rattle.figures.specs.Figure.{SineCondition, denominator, angle_count, pole, side, has_side}
use Rattle.figures.proofs.Figures.{Signed, angle_bound, pole_signed, side_signed}
use Rattle.pass_rules.specs.SecondPass.{SineEntries, second_reduced, side_reduced, misclosure_in, sine_misclosure, side_misclosure, difference_squares_in, sum_of_squares, side_squares, shared_products, divisor, tenths_factor, numerator_of_one, numerator_of_two, second_numerator}
use Rattle.pass_rules.proofs.SecondAccepted.{Kept, Accepted}
use Rattle.pass_steps.specs.Premises.{Within, most_denominator, most_misclosure, most_reduced}
use Rattle.pass_second.proofs.Exact.{product_magnitude}
use Rattle.pass_second.proofs.SineBounds.{denominator_bound, squares_natural, squares_magnitude, reduced_magnitude, products_magnitude}
use Rattle.pass_second.proofs.Tolerance as Tolerance

-- ---- with sums of products up to 2 ^ 60

determinant_digits : (aa ab bb : ℤ) → nat_abs aa ≤ 2 ^ 60 → nat_abs ab ≤ 2 ^ 60 → nat_abs bb ≤ 2 ^ 60 → nat_abs (determinant aa ab bb) < 10 ^ 37
determinant_digits aa ab bb h k l =
    lt_of_le_of_lt (magnitude_reaches 3 (λ aa ab bb. aa ⊗ bb ⊖ ab ⊗ ab) aa (2 ^ 60) h ab (2 ^ 60) k bb (2 ^ 60) l) (lit< tt)

module _ (f : Figure) (tolerance : ℕ) (angles rounds : List ℕ) (e : SineEntries) (lent : List ℕ) (ok : Accepted f tolerance angles rounds e lent)
    (differences_few : Within most_difference e.differences) where
  -- ---- W of a sine condition, where number 9 passes

  misclosure_few : (c : SineCondition) → Signed f c → Kept f tolerance c e → nat_abs (misclosure_in f c e) ≤ most_misclosure
  misclosure_few c signed kept =
      Tolerance.within_tolerance (misclosure_in f c e) tolerance (difference_squares_in f c e) ok.entries.tolerance_range
      (squares_natural f c e) (squares_magnitude f c signed e differences_few) kept

  pub w_few : nat_abs (sine_misclosure f e) ≤ most_misclosure
  w_few = misclosure_few (pole f) (pole_signed f) ok.within_tolerance

  pub side_w_few : nat_abs (side_misclosure f e) ≤ most_misclosure
  side_w_few = misclosure_few (side f) (side_signed f) ok.side_within_tolerance

  -- ---- A and B

  pub reduced_few : (i : ℕ) → nat_abs (second_reduced f e i) ≤ most_reduced
  reduced_few = reduced_magnitude f (pole f) (pole_signed f) e differences_few

  pub side_reduced_few : (i : ℕ) → nat_abs (side_reduced f e i) ≤ most_reduced
  side_reduced_few = reduced_magnitude f (side f) (side_signed f) e differences_few

  -- ---- their sums of products

  squares_few : nat_abs (sum_of_squares f e) ≤ 2 ^ 60
  unfolding sum_of_squares
  squares_few = products_magnitude f (second_reduced f e) (second_reduced f e) reduced_few reduced_few

  shared_few : nat_abs (shared_products f e) ≤ 2 ^ 60
  unfolding shared_products
  shared_few = products_magnitude f (second_reduced f e) (side_reduced f e) reduced_few side_reduced_few

  side_squares_few : nat_abs (side_squares f e) ≤ 2 ^ 60
  unfolding side_squares
  side_squares_few = products_magnitude f (side_reduced f e) (side_reduced f e) side_reduced_few side_reduced_few

  -- ---- S has 18 digits, the determinant 37

  squares_digits : nat_abs (sum_of_squares f e) < 10 ^ 18
  unfolding sum_of_squares dot
  squares_digits =
      let most = most_reduced in
      let term : (i : ℕ) → i < angle_count f → nat_abs (second_reduced f e i *ℤ second_reduced f e i) ≤ most * most =
      λ i b. product_magnitude (second_reduced f e i) (second_reduced f e i) most most (reduced_few i) (reduced_few i) in
      lt_of_le_of_lt
      (le_trans (sum_magnitude (angle_count f) (λ i. second_reduced f e i *ℤ second_reduced f e i) (most * most) term)
      (mul-le-mul_right (most * most) (angle_bound f)))
      (lit< tt)

  pub divisor_digits_lem : nat_abs (divisor f e) < 10 ^ cond (has_side f) 37 18
  unfolding divisor
  divisor_digits_lem = go (has_side f)
    where
      go : (both : Bool)
          → nat_abs (cond both (determinant (sum_of_squares f e) (shared_products f e) (side_squares f e)) (sum_of_squares f e))
          < 10 ^ cond both 37 18
      go true = determinant_digits (sum_of_squares f e) (shared_products f e) (side_squares f e) squares_few shared_few side_squares_few
      go false = squares_digits

  -- ---- numerators have 17 digits over S, 36 over the determinant

  factor_few : nat_abs (tenths_factor f) ≤ 100 * most_denominator
  factor_few = product_magnitude (neg_ℤ (pos 100)) (pos (denominator f)) 100 most_denominator (le_refl 100) (denominator_bound f)

  one_digits : (i : ℕ) → nat_abs (numerator_of_one f e i) < 10 ^ 17
  one_digits i =
      lt_of_le_of_lt
      (magnitude_reaches 3 (λ t a w. t ⊗ a ⊗ w) (tenths_factor f) (100 * most_denominator) factor_few
      (second_reduced f e i) most_reduced (reduced_few i) (sine_misclosure f e) most_misclosure w_few)
      (lit< tt)

  two_digits : (i : ℕ) → nat_abs (numerator_of_two f e i) < 10 ^ 36
  two_digits i =
      lt_of_le_of_lt
      (magnitude_reaches 8 (λ t aa ab bb wa wb a b. t ⊗ (a ⊗ (bb ⊗ wa ⊖ ab ⊗ wb) ⊕ b ⊗ (aa ⊗ wb ⊖ ab ⊗ wa)))
      (tenths_factor f) (100 * most_denominator) factor_few (sum_of_squares f e) (2 ^ 60) squares_few (shared_products f e) (2 ^ 60) shared_few
      (side_squares f e) (2 ^ 60) side_squares_few (sine_misclosure f e) most_misclosure w_few (side_misclosure f e) most_misclosure side_w_few
      (second_reduced f e i) most_reduced (reduced_few i) (side_reduced f e i) most_reduced (side_reduced_few i))
      (lit< tt)

  pub numerator_digits_lem : (i : ℕ) → nat_abs (second_numerator f e i) < 10 ^ cond (has_side f) 36 17
  unfolding second_numerator
  numerator_digits_lem i = go (has_side f)
    where
      go : (both : Bool) → nat_abs (cond both (numerator_of_two f e i) (numerator_of_one f e i)) < 10 ^ cond both 36 17
      go true = two_digits i
      go false = one_digits i
