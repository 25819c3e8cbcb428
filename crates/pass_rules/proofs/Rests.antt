-- What the rounding leaves of a condition, in both passes: where the exact corrections cancel a misclosure, twice the rest is at most one
-- tenth for each angle of the condition. Assumes nothing.
use Rattle.std.specs.Prelude.{◌≡◌, List, [], ◌∷◌, ℕ, zero, suc, ◌*◌, ◌≤◌, ◌<◌, length, ℤ, pos, neg_ℤ, nat_abs, ◌+ℤ◌, ◌-ℤ◌, ◌*ℤ◌}
use Rattle.vocabulary.specs.{ap, ◌∙◌, zero-le, le_of_mul-le-mul_right, arith}
use Rattle.whole.specs.Quotient.{rounded_quotient}
use Rattle.whole.proofs.{Magnitudes.nat_abs_add, Magnitudes.nat_abs_mul, Magnitudes.nat_abs_neg, Quotient.rounded_near}
use Rattle.whole.proofs.Ring.{ring, ◌≐◌, ◌⊕◌, ◌⊖◌, ◌⊗◌, ⊝◌, constant}
use Rattle.figures.specs.{declared.Figure.Figure, Figure.members_of, Numerators.sum_over, Numerators.condition_sum}

sum_over_differences : (members : List ℕ) (x y : ℕ → ℤ) (c : ℤ) → sum_over members (λ i. x i -ℤ (y i *ℤ c)) ≡ sum_over members x -ℤ (sum_over members y *ℤ c)
unfolding sum_over
sum_over_differences [] x y c = ring 1 (λ c. constant (pos 0) ≐ constant (pos 0) ⊖ constant (pos 0) ⊗ c) tt c
sum_over_differences (zero ∷ others) x y c = sum_over_differences others x y c
sum_over_differences (suc i ∷ others) x y c =
    ap (λ (t : ℤ). x i -ℤ (y i *ℤ c) +ℤ t) (sum_over_differences others x y c)
    ∙ ring 5 (λ a b c s t. a ⊖ b ⊗ c ⊕ (s ⊖ t ⊗ c) ≐ a ⊕ s ⊖ (b ⊕ t) ⊗ c) tt (x i) (y i) c (sum_over others x) (sum_over others y)

sum_over_halves : (members : List ℕ) (x : ℕ → ℤ) (most : ℕ) → ((i : ℕ) → 2 * nat_abs (x i) ≤ most) → 2 * nat_abs (sum_over members x) ≤ length members * most
unfolding sum_over
sum_over_halves [] x most h = zero-le
sum_over_halves (zero ∷ others) x most h = omega (arith, sum_over_halves others x most h)
sum_over_halves (suc i ∷ others) x most h = omega (arith, nat_abs_add (x i) (sum_over others x), sum_over_halves others x most h, h i)

module _ (f : Figure) (numerators : ℕ → ℤ) (denominator : ℕ) (j : ℕ) (w : ℤ) (positive : 0 < denominator)
    (cancels : condition_sum f numerators j ≡ neg_ℤ (pos denominator) *ℤ w) where
  abbrev rounded : ℕ → ℤ
  rounded i = rounded_quotient (numerators i) denominator

  abbrev rest : ℤ
  rest = w +ℤ condition_sum f rounded j

  -- how far the numerators of the condition lie from the rounded corrections, together
  together : condition_sum f (λ i. numerators i -ℤ (rounded i *ℤ pos denominator)) j ≡ neg_ℤ (pos denominator *ℤ rest)
  unfolding condition_sum
  together =
      sum_over_differences (members_of f (suc j)) numerators rounded (pos denominator)
      ∙ ap (λ (t : ℤ). t -ℤ (condition_sum f rounded j *ℤ pos denominator)) cancels
      ∙ ring 3 (λ d w c. ⊝ d ⊗ w ⊖ c ⊗ d ≐ ⊝ (d ⊗ (w ⊕ c))) tt (pos denominator) w (condition_sum f rounded j)

  magnitude : nat_abs (condition_sum f (λ i. numerators i -ℤ (rounded i *ℤ pos denominator)) j) ≡ denominator * nat_abs rest
  magnitude = ap nat_abs together ∙ nat_abs_neg (pos denominator *ℤ rest) ∙ nat_abs_mul (pos denominator) rest

  pub rest_small : 2 * nat_abs (w +ℤ condition_sum f (λ i. rounded_quotient (numerators i) denominator) j) ≤ length (members_of f (suc j))
  unfolding condition_sum
  rest_small =
      le_of_mul-le-mul_right {m = 2 * nat_abs rest} {n = length (members_of f (suc j))} {k = denominator}
      (omega (arith, magnitude, sum_over_halves (members_of f (suc j)) (λ i. numerators i -ℤ (rounded i *ℤ pos denominator)) denominator (λ i. rounded_near (numerators i) denominator positive)))
      positive
