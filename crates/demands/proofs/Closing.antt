-- Demand 3 of any numbers that are rows applied to misclosures, of an accepted first pass of code 2, and of any numbers that are the
-- second pass's numerators; and what an accepted second pass answers and stores. Assumes nothing.
use Rattle.std.specs.Prelude.{Ok}
use Rattle.std.specs.Prelude.{ℕ, ◌<◌, List, ◌∷◌, ◌≡◌, refl, T, ℤ, pos, negsuc, neg_ℤ, nat_abs, ◌*ℤ◌, length, get_or, ◌≤ℤ◌, ◌<ℤ◌}
use Rattle.vocabulary.specs.{sym, ap, subst, ◌∙◌, eq-eqb, lt→ltb, lt_z_yes}
use Rattle.whole.specs.Sums.{dot, squares}
use Rattle.whole.proofs.Sums.{dot_ext, squares_ext}
use Rattle.figures.specs.{declared.Figure.Figure, Numerators.numerator}
use Rattle.figures.specs.Figure.{description, denominator, angle_count, condition_count, pole, side}
use Rattle.figures.proofs.Theorem.{condition_agrees, numerators_cancel, least_squares, only_least}
use Rattle.refusals.specs.Order.{judged}
use Rattle.pass_rules.specs.FirstPass.{misclosure, first_rows}
use Rattle.pass_rules.specs.SecondPass.{SineEntries, signed_in, sine_misclosure, side_misclosure, divisor, second_numerator}
use Rattle.pass_rules.proofs.FirstAccepted as First
use Rattle.pass_rules.proofs.Horizon as Horizon
use Rattle.pass_rules.proofs.SecondLaws.{divisor_natural, numerators_close, pole_cancelled, side-cancelled}
use Rattle.demands.specs.Demand3.{Cancel, squares_over, LeastSquares, ClosesHorizon, HorizonCloses, SineCloses}

pub are_least_squares : (f : Figure) (misclosures numerators : ℕ → ℤ)
    → ((i : ℕ) → i < angle_count f → numerators i ≡ numerator f misclosures i)
    → LeastSquares f misclosures numerators
are_least_squares f w numerators rows =
    let same : squares (angle_count f) (numerator f w) ≡ squares (angle_count f) numerators =
    sym (squares_ext (angle_count f) numerators (numerator f w) rows) in
    record {
      cancel = λ j h. condition_agrees f numerators (numerator f w) rows j h ∙ numerators_cancel f w j h;
      never_below = λ q positive x cancel.
          subst (λ (z : ℤ). (pos q *ℤ pos q *ℤ z) ≤ℤ squares_over f (denominator f) x) same (least_squares f (pos q) w x cancel);
      only_the_same = λ q positive x cancel e i h.
          only_least f (pos q) w x cancel (ap (λ (z : ℤ). pos q *ℤ pos q *ℤ z) same ∙ e) i h ∙ ap (λ (z : ℤ). pos q *ℤ z) (sym (rows i h));
    }

-- code 2: every list of corrections that cancels the misclosures of a sheet that passes
pub horizon_closes : (f : Figure) (limit : ℕ) (angles rounds fixed results : List ℕ) (misclosures numerators : ℕ → ℤ) → (description f).code ≡ 2
    → judged (first_rows f limit angles rounds fixed (length angles ∷ length rounds ∷ length fixed ∷ results)) ≡ Ok tt
    → ((j : ℕ) → j < condition_count f → misclosures j ≡ misclosure f angles fixed j)
    → ((i : ℕ) → i < angle_count f → numerators i ≡ numerator f misclosures i)
    → HorizonCloses f angles misclosures numerators
horizon_closes f limit angles rounds fixed results w numerators two passed are rows = record {
  exact = closes (denominator f) numerators (are_least_squares f w numerators rows).cancel;
  every = λ q positive x cancel. closes q x cancel;
}
  where
    entries : First.Entries f limit angles rounds fixed (length angles ∷ length rounds ∷ length fixed ∷ results)
    entries = (First.accepted f limit angles rounds fixed _ passed).entries

    closes : (q : ℕ) (x : ℕ → ℤ) → Cancel f q x w → ClosesHorizon f q angles x
    closes q x cancel =
        Horizon.horizon_closes f (subst T (sym (eq-eqb (description f).code 2 two)) tt) angles fixed
        (ap (λ (l : List ℕ). get_or l 2 0) entries.lengths) entries.fixed_angles_sum q x
        (λ j h. cancel j h ∙ ap (λ (z : ℤ). neg_ℤ (pos q) *ℤ z) (are j h))

above_zero : (z : ℤ) → pos 0 ≤ℤ z → 0 < nat_abs z → pos 0 <ℤ z
above_zero (pos n) low some = lt_z_yes (lt→ltb 0 n some)
above_zero (negsuc n) low some = absurd low.le

-- over S or the determinant, which an accepted sheet has not 0
pub sine_closes : (f : Figure) (e : SineEntries) (numerators : ℕ → ℤ) → ((i : ℕ) → i < angle_count f → numerators i ≡ second_numerator f e i)
    → 0 < nat_abs (divisor f e) → SineCloses f e.differences numerators (sine_misclosure f e) (side_misclosure f e) (divisor f e)
unfolding signed_in
sine_closes f e numerators are some =
    let over : (d : ℕ → ℤ) → dot (angle_count f) d numerators ≡ dot (angle_count f) d (second_numerator f e) =
    λ d. dot_ext (angle_count f) d numerators d (second_numerator f e) (λ i h. refl) are in
    record {
      divisor_positive = above_zero (divisor f e) (divisor_natural f e) some;
      linear = λ j h. condition_agrees f numerators (second_numerator f e) are j h ∙ numerators_close f e j h;
      sine = over (signed_in (pole f) e) ∙ pole_cancelled f e;
      side_sine = λ both. over (signed_in (side f) e) ∙ side-cancelled f e both;
    }

-- ---- what an accepted second pass answers and stores

-- numerators, W of the pole and of the side condition, and S or the determinant, as the definitions give them
pub record Exact (f : Figure) (e : SineEntries) (numerators : ℕ → ℤ) (w sideW over : ℤ) : Type 0 where
  pub numerators_are : (i : ℕ) → i < angle_count f → numerators i ≡ second_numerator f e i
  pub w_is : sine_misclosure f e ≡ w
  pub side_w_is : side_misclosure f e ≡ sideW
  pub divisor_is : divisor f e ≡ over
  pub divisor_some : 0 < nat_abs (divisor f e)

pub exact_closes : {f : Figure} {e : SineEntries} {numerators : ℕ → ℤ} {w sideW over : ℤ} → Exact f e numerators w sideW over
    → SineCloses f e.differences numerators w sideW over
exact_closes {f} {e} {numerators} exact =
    rw (← exact.w_is, ← exact.side_w_is, ← exact.divisor_is) (sine_closes f e numerators exact.numerators_are exact.divisor_some)
