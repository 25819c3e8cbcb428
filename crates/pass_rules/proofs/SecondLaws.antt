-- The second corrections of any sheet, over the figure: what they are with one sine condition and with two, that they change no linear
-- condition, so that a rest is small, that they cancel each sine misclosure, to what they are orthogonal, and that the formula for two
-- covers that for one. In whole numbers, as numerators over S or the determinant; cites the figures' theorems. Assumes nothing.
use Rattle.std.specs.Prelude.{Bool, true, false, cond, ◌≡◌, refl, ℕ, suc, ◌*◌, ◌≤◌, ◌<◌, length, ℤ, pos, neg_ℤ, nat_abs, ◌-ℤ◌, ◌*ℤ◌, ◌≤ℤ◌}
use Rattle.vocabulary.specs.{sym, ap, ◌∙◌, subst, +ℤ_idl, *ℤ-zero}
use Rattle.whole.specs.Sums.{dot, squares}
use Rattle.whole.proofs.Ring.{ring, ◌≐◌, ◌⊕◌, ◌⊖◌, ◌⊗◌, constant}
use Rattle.whole.proofs.Sums.{dot_ext, dot_scale, squares_nonnegative}
use Rattle.pass_pair.specs.Pair.{pair_numerator}
use Rattle.figures.specs.{declared.Figure.Figure, Numerators.condition_sum}
use Rattle.figures.specs.Figure.{denominator, angle_count, condition_count, members_of, pole, side, has_side}
use Rattle.figures.proofs.Theorem.{condition_agrees, multiple_closes, reduced_squares, combination_orthogonal}
use Rattle.figures.proofs.TwoSines as two
use Rattle.pass_rules.specs.SecondPass.{SineEntries, signed_in, reduced_in, second_reduced, sum_of_squares, side_squares, shared_products, sine_misclosure, side_misclosure, divisor, tenths_factor, numerator_of_one, numerator_of_two, second_numerator, second_rounded, second_rest}
use Rattle.pass_rules.proofs.Rests.{rest_small}

-- ---- the formula for two sine conditions with B absent, so that B, [AB] and Wb are 0, and 1 in the place of [BB], is that for one

pub one_of_two : (factor aa wa a : ℤ) → pair_numerator factor aa (pos 0) (pos 1) wa (pos 0) a (pos 0) ≡ factor *ℤ a *ℤ wa
one_of_two factor aa wa a =
    ring 4
    (λ k aa w a. k ⊗ (a ⊗ (constant (pos 1) ⊗ w ⊖ constant (pos 0) ⊗ constant (pos 0))
    ⊕ constant (pos 0) ⊗ (aa ⊗ constant (pos 0) ⊖ constant (pos 0) ⊗ w)) ≐ k ⊗ a ⊗ w)
    tt factor aa wa a

pub divisor_of_two : (aa : ℤ) → aa *ℤ pos 1 -ℤ pos 0 *ℤ pos 0 ≡ aa
divisor_of_two aa = ring 1 (λ aa. aa ⊗ constant (pos 1) ⊖ constant (pos 0) ⊗ constant (pos 0) ≐ aa) tt aa

module _ (f : Figure) (e : SineEntries) where
  -- S is the sum of A²
  pub squares_sum : sum_of_squares f e ≡ squares (angle_count f) (second_reduced f e)
  unfolding sum_of_squares
  squares_sum = refl

  -- ---- one sine condition

  module _ (one : has_side f ≡ false) where
    pub numerator_of_one_lem : (i : ℕ) → second_numerator f e i ≡ numerator_of_one f e i
    unfolding second_numerator
    numerator_of_one_lem i = ap (λ (b : Bool). cond b (numerator_of_two f e i) (numerator_of_one f e i)) one

    pub divisor_of_one : divisor f e ≡ sum_of_squares f e
    unfolding divisor
    divisor_of_one =
        ap (λ (b : Bool). cond b (sum_of_squares f e *ℤ side_squares f e -ℤ shared_products f e *ℤ shared_products f e) (sum_of_squares f e)) one

    -- −100·D·W
    abbrev factor : ℤ
    factor = tenths_factor f *ℤ sine_misclosure f e

    as_multiple : (i : ℕ) → second_numerator f e i ≡ factor *ℤ second_reduced f e i
    as_multiple i =
        numerator_of_one_lem i ∙ ring 3 (λ k a w. k ⊗ a ⊗ w ≐ k ⊗ w ⊗ a) tt (tenths_factor f) (second_reduced f e i) (sine_misclosure f e)

    one_closes : (j : ℕ) → j < condition_count f → condition_sum f (second_numerator f e) j ≡ pos 0
    unfolding reduced_in
    one_closes = multiple_closes f (signed_in (pole f) e) factor (second_numerator f e) (λ i h. as_multiple i)

    one_orthogonal : (z : ℕ → ℤ) → ((j : ℕ) → j < condition_count f → condition_sum f z j ≡ pos 0)
        → dot (angle_count f) (signed_in (pole f) e) z ≡ pos 0 → dot (angle_count f) (second_numerator f e) z ≡ pos 0
    unfolding reduced_in
    one_orthogonal z closes still =
        combination_orthogonal f (signed_in (pole f) e) (signed_in (pole f) e) factor (pos 0) (second_numerator f e)
        (λ i h. as_multiple i ∙ ring 2 (λ k a. k ⊗ a ≐ k ⊗ a ⊕ constant (pos 0) ⊗ a) tt factor (second_reduced f e i)) z closes still still

    one_cancelled : dot (angle_count f) (signed_in (pole f) e) (second_numerator f e) ≡ neg_ℤ (pos 100) *ℤ sine_misclosure f e *ℤ divisor f e
    unfolding reduced_in sum_of_squares
    one_cancelled =
        let d : ℕ → ℤ = signed_in (pole f) e in
        let A : ℕ → ℤ = second_reduced f e in
        let w : ℤ = sine_misclosure f e in
        dot_ext (angle_count f) d (second_numerator f e) d (λ i. factor *ℤ A i) (λ i h. refl) (λ i h. as_multiple i)
        ∙ dot_scale (angle_count f) factor d A
        ∙ ring 4 (λ h d w s. h ⊗ d ⊗ w ⊗ s ≐ h ⊗ w ⊗ (d ⊗ s)) tt (neg_ℤ (pos 100)) (pos (denominator f)) w (dot (angle_count f) d A)
        ∙ ap (λ (z : ℤ). neg_ℤ (pos 100) *ℤ w *ℤ z) (reduced_squares f d ∙ sym divisor_of_one)

    one_natural : pos 0 ≤ℤ divisor f e
    unfolding sum_of_squares
    one_natural = subst (λ (z : ℤ). pos 0 ≤ℤ z) (sym divisor_of_one) (squares_nonnegative (angle_count f) (second_reduced f e))

  -- ---- two

  module _ (both : has_side f ≡ true) where
    pub numerator_of_two_lem : (i : ℕ) → second_numerator f e i ≡ numerator_of_two f e i
    unfolding second_numerator
    numerator_of_two_lem i = ap (λ (b : Bool). cond b (numerator_of_two f e i) (numerator_of_one f e i)) both

    pub divisor_of_both : divisor f e ≡ sum_of_squares f e *ℤ side_squares f e -ℤ shared_products f e *ℤ shared_products f e
    unfolding divisor
    divisor_of_both =
        ap (λ (b : Bool). cond b (sum_of_squares f e *ℤ side_squares f e -ℤ shared_products f e *ℤ shared_products f e) (sum_of_squares f e)) both

    -- they are those of the figures' theorem
    pub determinant_is : divisor f e ≡ two.determinant f (signed_in (pole f) e) (signed_in (side f) e)
    unfolding sum_of_squares side_squares shared_products reduced_in
    determinant_is = divisor_of_both

    pub correction_is : (i : ℕ)
        → second_numerator f e i ≡ two.correction f (signed_in (pole f) e) (signed_in (side f) e) (sine_misclosure f e) (side_misclosure f e) i
    unfolding sum_of_squares side_squares shared_products reduced_in
    correction_is i = numerator_of_two_lem i

    two_closes : (j : ℕ) → j < condition_count f → condition_sum f (second_numerator f e) j ≡ pos 0
    two_closes j h =
        condition_agrees f (second_numerator f e) _ (λ i b. correction_is i) j h
        ∙ two.corrections_close f (signed_in (pole f) e) (signed_in (side f) e) (sine_misclosure f e) (side_misclosure f e) j h

    two_orthogonal : (z : ℕ → ℤ) → ((j : ℕ) → j < condition_count f → condition_sum f z j ≡ pos 0)
        → dot (angle_count f) (signed_in (pole f) e) z ≡ pos 0 → dot (angle_count f) (signed_in (side f) e) z ≡ pos 0
        → dot (angle_count f) (second_numerator f e) z ≡ pos 0
    two_orthogonal z closes still still-side =
        dot_ext (angle_count f) (second_numerator f e) z _ z (λ i h. correction_is i) (λ i h. refl)
        ∙ two.corrections_orthogonal f (signed_in (pole f) e) (signed_in (side f) e) (sine_misclosure f e) (side_misclosure f e) z closes
        still still-side

    -- the sum over any differences d, from what the figures' theorem says of it
    over_determinant : (d : ℕ → ℤ) (w : ℤ)
        → dot (angle_count f) d (two.correction f (signed_in (pole f) e) (signed_in (side f) e) (sine_misclosure f e) (side_misclosure f e))
        ≡ neg_ℤ (pos 100) *ℤ (two.determinant f (signed_in (pole f) e) (signed_in (side f) e) *ℤ w)
        → dot (angle_count f) d (second_numerator f e) ≡ neg_ℤ (pos 100) *ℤ w *ℤ divisor f e
    over_determinant d w says =
        dot_ext (angle_count f) d (second_numerator f e) d _ (λ i h. refl) (λ i h. correction_is i)
        ∙ says
        ∙ ap (λ (z : ℤ). neg_ℤ (pos 100) *ℤ (z *ℤ w)) (sym determinant_is)
        ∙ ring 3 (λ h s w. h ⊗ (s ⊗ w) ≐ h ⊗ w ⊗ s) tt (neg_ℤ (pos 100)) (divisor f e) w

    two_cancelled : dot (angle_count f) (signed_in (pole f) e) (second_numerator f e) ≡ neg_ℤ (pos 100) *ℤ sine_misclosure f e *ℤ divisor f e
    two_cancelled =
        over_determinant (signed_in (pole f) e) (sine_misclosure f e)
        (two.first_cancelled f (signed_in (pole f) e) (signed_in (side f) e) (sine_misclosure f e) (side_misclosure f e))

    -- "both sine misclosures": the side condition's
    pub side-cancelled :
        dot (angle_count f) (signed_in (side f) e) (second_numerator f e) ≡ neg_ℤ (pos 100) *ℤ side_misclosure f e *ℤ divisor f e
    side-cancelled =
        over_determinant (signed_in (side f) e) (side_misclosure f e)
        (two.second_cancelled f (signed_in (pole f) e) (signed_in (side f) e) (sine_misclosure f e) (side_misclosure f e))

    two_natural : pos 0 ≤ℤ divisor f e
    two_natural = subst (λ (z : ℤ). pos 0 ≤ℤ z) (sym determinant_is) (two.determinant_natural f (signed_in (pole f) e) (signed_in (side f) e))

  -- ---- either

  -- S and the determinant are from 0 up
  pub divisor_natural : pos 0 ≤ℤ divisor f e
  divisor_natural = go (has_side f) refl
    where
      go : (b : Bool) → has_side f ≡ b → pos 0 ≤ℤ divisor f e
      go true both = two_natural both
      go false one = one_natural one

  -- the exact corrections change no linear condition
  pub numerators_close : (j : ℕ) → j < condition_count f → condition_sum f (second_numerator f e) j ≡ pos 0
  numerators_close j h = go (has_side f) refl
    where
      go : (b : Bool) → has_side f ≡ b → condition_sum f (second_numerator f e) j ≡ pos 0
      go true both = two_closes both j h
      go false one = one_closes one j h

  -- what changes no linear condition and no sine sum is orthogonal to them
  pub numerators_orthogonal : (z : ℕ → ℤ) → ((j : ℕ) → j < condition_count f → condition_sum f z j ≡ pos 0)
      → dot (angle_count f) (signed_in (pole f) e) z ≡ pos 0 → (has_side f ≡ true → dot (angle_count f) (signed_in (side f) e) z ≡ pos 0)
      → dot (angle_count f) (second_numerator f e) z ≡ pos 0
  numerators_orthogonal z closes still still-side = go (has_side f) refl
    where
      go : (b : Bool) → has_side f ≡ b → dot (angle_count f) (second_numerator f e) z ≡ pos 0
      go true both = two_orthogonal both z closes still (still-side both)
      go false one = one_orthogonal one z closes still

  -- "the sum of d times the exact second correction (tenths) is −100·W", over the pole's d
  pub pole_cancelled : dot (angle_count f) (signed_in (pole f) e) (second_numerator f e) ≡ neg_ℤ (pos 100) *ℤ sine_misclosure f e *ℤ divisor f e
  pole_cancelled = go (has_side f) refl
    where
      go : (b : Bool) → has_side f ≡ b
          → dot (angle_count f) (signed_in (pole f) e) (second_numerator f e) ≡ neg_ℤ (pos 100) *ℤ sine_misclosure f e *ℤ divisor f e
      go true both = two_cancelled both
      go false one = one_cancelled one

  -- a rest is at most half a tenth for each angle of its condition
  pub rest_half : (j : ℕ) → j < condition_count f → 0 < nat_abs (divisor f e) → 2 * nat_abs (second_rest f e j) ≤ length (members_of f (suc j))
  unfolding second_rest second_rounded
  rest_half j b positive =
      let over = nat_abs (divisor f e) in
      subst (λ (z : ℤ). 2 * nat_abs z ≤ length (members_of f (suc j))) (+ℤ_idl (second_rest f e j))
      (rest_small f (second_numerator f e) over j (pos 0) positive (numerators_close j b ∙ sym (*ℤ-zero (neg_ℤ (pos over)))))
