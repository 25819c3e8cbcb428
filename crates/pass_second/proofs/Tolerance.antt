-- Number 9 in natural numbers, as the code decides it, and how far W can be where it passes. Assumes nothing.
use Rattle.std.specs.Prelude.{◌≡◌, Bool, ℕ, ◌*◌, ◌≤◌, ◌<◌, ltb, ℤ, pos, nat_abs, ◌*ℤ◌, ◌≤ℤ◌}
use Rattle.vocabulary.specs.{ap, ap₂, ◌∙◌, subst, dec_lt, le_of_lt, mul-le-mul, arith, leb→le, lit≤, lt_z}
use Rattle.whole.proofs.{Magnitudes.nat_abs_mul, Order.natural, Order.square_nonnegative}
use Rattle.refusals.specs.{Questions.less_signed, Questions.asked, Ranges.most_difference, Ranges.most_tolerance}
use Rattle.figures.specs.Numerators.{most_angles}
use Rattle.pass_rules.specs.SecondPass.{tolerance_of}
use Rattle.pass_rules.proofs.WithinRange.{in_force_within}
use Rattle.pass_steps.specs.Premises.{most_misclosure}

square : (w : ℤ) → w *ℤ w ≡ pos (nat_abs w * nat_abs w)
square w = natural (w *ℤ w) (square_nonnegative w) ∙ ap pos (nat_abs_mul w w)

pub exceeds_is : (w : ℤ) (e : ℕ) (q : ℤ) → pos 0 ≤ℤ q
    → asked (less_signed (pos (e * e) *ℤ q) (pos 100 *ℤ (w *ℤ w))) ≡ ltb (e * e * nat_abs q) (100 * (nat_abs w * nat_abs w))
exceeds_is w e q h = ap₂ {C = Bool} (λ (x y : ℤ). lt_z (pos (e * e) *ℤ x) (pos 100 *ℤ y)) (natural q h) (square w)

pub within_tolerance : (w : ℤ) (tolerance : ℕ) (q : ℤ) → tolerance ≤ most_tolerance → pos 0 ≤ℤ q → nat_abs q ≤ most_angles * (most_difference * most_difference)
    → (pos 100 *ℤ (w *ℤ w)) ≤ℤ (pos (tolerance_of tolerance * tolerance_of tolerance) *ℤ q) → nat_abs w ≤ most_misclosure
within_tolerance w tolerance q few natural-q most kept = go (dec_lt (nat_abs w) most_misclosure)
  where
    e : ℕ
    e = tolerance_of tolerance

    e_most : e ≤ most_tolerance
    e_most = in_force_within 10 most_tolerance tolerance (lit≤ tt) few

    within : 100 * (nat_abs w * nat_abs w) ≤ e * e * nat_abs q
    within =
        let over-q = subst (λ (z : ℤ). (pos 100 *ℤ (w *ℤ w)) ≤ℤ (pos (e * e) *ℤ z)) (natural q natural-q) kept in
        leb→le _ _ (subst (λ (z : ℤ). (pos 100 *ℤ z) ≤ℤ (pos (e * e) *ℤ pos (nat_abs q))) (square w) over-q).le

    limit : e * e * nat_abs q ≤ most_tolerance * most_tolerance * (most_angles * (most_difference * most_difference))
    limit = mul-le-mul (mul-le-mul e_most e_most) most

    go : Dec (nat_abs w < most_misclosure) → nat_abs w ≤ most_misclosure
    go (yes h) = le_of_lt h
    go (no h) =
        let large : most_misclosure ≤ nat_abs w = omega arith in
        absurd (omega (arith, mul-le-mul large large, within, limit))
