-- How large the numbers of the sine condition can be, of every figure at once. Assumes nothing.
use Rattle.std.specs.Prelude.{List, ℕ, ◌*◌, ◌^◌, ◌≤◌, ◌<◌, T, leb, ℤ, pos, nat_abs, ◌+ℤ◌, ◌*ℤ◌, ◌≤ℤ◌}
use Rattle.vocabulary.specs.{le_trans, mul-le-mul_right, arith, leb→le, lit≤}
use Rattle.whole.specs.{Lists.every, Sums.dot, Sums.vector}
use Rattle.whole.proofs.{Magnitudes.nat_abs_add, Sums.sum_magnitude, Sums.squares_nonnegative}
use Rattle.refusals.specs.Ranges.{most_log_sine, most_difference}
use Rattle.figures.specs.{declared.Figure.Figure, Figure.SineCondition, Figure.denominator, Figure.angle_count, Figure.all_figures}
use Rattle.figures.specs.Numerators.{condition_sum, numerator, reduced_coefficient, most_angles, most_members}
use Rattle.figures.proofs.Figures.{Signed, each_figure, angle_bound}
use Rattle.pass_rules.specs.{Pass.given, SecondPass.SineEntries, SecondPass.signed_in, SecondPass.reduced_in, SecondPass.difference_squares_in}
use Rattle.pass_steps.specs.Premises.{Within, LogSines, most_denominator, most_reduced, most_taken}
use Rattle.pass_steps.proofs.Bounds.{condition_magnitude, numerator_magnitude}
use Rattle.pass_second.proofs.Exact.{product_magnitude}

-- ---- denominators, by one test over all figures

all_denominators : T (every (λ f. leb (denominator f) most_denominator) all_figures)
all_denominators = tt

pub denominator_bound : (f : Figure) → denominator f ≤ most_denominator
denominator_bound f = leb→le (denominator f) most_denominator (each_figure (λ g. leb (denominator g) most_denominator) all_denominators f)

-- ---- W of a sine condition, as far as its angles go

pub angles_magnitude : (f : Figure) (signs : List ℤ) → ((i : ℕ) → i < angle_count f → nat_abs (vector signs i) ≤ 1) → (log_sines : List ℕ) → LogSines log_sines
    → nat_abs (dot (angle_count f) (vector signs) (given log_sines)) ≤ most_angles * most_log_sine
unfolding dot
angles_magnitude f signs small log_sines most =
    le_trans
    (sum_magnitude (angle_count f) (λ i. vector signs i *ℤ given log_sines i) most_log_sine
    (λ i b. product_magnitude (vector signs i) (given log_sines i) 1 most_log_sine (small i b) (most i)))
    (mul-le-mul_right most_log_sine (angle_bound f))

-- ---- d, and the sum of d²

module _ (f : Figure) (c : SineCondition) (signed : Signed f c) (e : SineEntries) (most : Within most_difference e.differences) where
  pub difference_magnitude : (i : ℕ) → nat_abs (signed_in c e i) ≤ most_difference
  unfolding signed_in
  difference_magnitude i = product_magnitude (vector c.signs i) (vector e.differences i) 1 most_difference (signed.sign_small i) (most i)

  pub squares_magnitude : nat_abs (difference_squares_in f c e) ≤ most_angles * (most_difference * most_difference)
  unfolding difference_squares_in dot
  squares_magnitude =
      le_trans
      (sum_magnitude (angle_count f) (λ i. signed_in c e i *ℤ signed_in c e i) (most_difference * most_difference)
      (λ i b. product_magnitude (signed_in c e i) (signed_in c e i) most_difference most_difference (difference_magnitude i) (difference_magnitude i)))
      (mul-le-mul_right (most_difference * most_difference) (angle_bound f))

pub squares_natural : (f : Figure) (c : SineCondition) (e : SineEntries) → pos 0 ≤ℤ difference_squares_in f c e
unfolding difference_squares_in
squares_natural f c e = squares_nonnegative (angle_count f) (signed_in c e)

-- ---- A

module _ (f : Figure) (d : ℕ → ℤ) (most : (i : ℕ) → nat_abs (d i) ≤ most_difference) where
  pub sums_magnitude : (j : ℕ) → nat_abs (condition_sum f d j) ≤ most_members * most_difference
  sums_magnitude = condition_magnitude f d most_difference most

  pub taken_magnitude : (i : ℕ) → nat_abs (numerator f (condition_sum f d) i) ≤ most_taken
  taken_magnitude i = numerator_magnitude f (condition_sum f d) (most_members * most_difference) sums_magnitude i

-- D·d and what is taken
pub together_magnitude : (denominator : ℕ) (d taken : ℤ) → denominator ≤ most_denominator → nat_abs d ≤ most_difference → nat_abs taken ≤ most_taken
    → nat_abs (pos denominator *ℤ d +ℤ taken) ≤ most_reduced
together_magnitude denominator d taken few small less =
    omega (arith, nat_abs_add (pos denominator *ℤ d) taken, product_magnitude (pos denominator) d most_denominator most_difference few small)

pub reduced_magnitude : (f : Figure) (c : SineCondition) → Signed f c → (e : SineEntries) → Within most_difference e.differences
    → (i : ℕ) → nat_abs (reduced_in f c e i) ≤ most_reduced
unfolding reduced_in reduced_coefficient
reduced_magnitude f c signed e most i =
    together_magnitude (denominator f) (signed_in c e i) (numerator f (condition_sum f (signed_in c e)) i)
    (denominator_bound f) (difference_magnitude f c signed e most i) (taken_magnitude f (signed_in c e) (difference_magnitude f c signed e most) i)

-- the sum of the products of two sets of them has 60 bits
pub products_magnitude : (f : Figure) (x y : ℕ → ℤ) → ((i : ℕ) → nat_abs (x i) ≤ most_reduced) → ((i : ℕ) → nat_abs (y i) ≤ most_reduced)
    → nat_abs (dot (angle_count f) x y) ≤ 2 ^ 60
unfolding dot
products_magnitude f x y h k =
    le_trans
    (sum_magnitude (angle_count f) (λ i. x i *ℤ y i) (most_reduced * most_reduced) (λ i b. product_magnitude (x i) (y i) most_reduced most_reduced (h i) (k i)))
    (le_trans (mul-le-mul_right (most_reduced * most_reduced) (angle_bound f)) (lit≤ tt))
