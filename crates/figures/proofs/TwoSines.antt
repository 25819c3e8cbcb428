-- Two sine conditions of a figure, with differences d and e and misclosures wa and wb: the corrections over the determinant that document
-- 02, M-100, gives change no linear condition and cancel both misclosures; and the determinant is from 0 up. Of every figure. Assumes
-- nothing.
use Rattle.std.specs.Prelude.{◌≡◌, refl, ℕ, ◌<◌, ℤ, pos, neg_ℤ, ◌+ℤ◌, ◌-ℤ◌, ◌*ℤ◌, ◌≤ℤ◌}
use Rattle.vocabulary.specs.{ap, ap₂, ◌∙◌}
use Rattle.whole.specs.Sums.{dot, squares}
use Rattle.whole.proofs.Ring.{ring, ◌≐◌, ◌⊕◌, ◌⊖◌, ◌⊗◌}
use Rattle.whole.proofs.Sums.{dot_ext, dot_comm, dot_combined, products_within}
use Rattle.figures.specs.{declared.Figure.Figure, Figure.denominator, Figure.angle_count, Figure.condition_count}
use Rattle.figures.specs.Numerators.{condition_sum, reduced_coefficient}
use Rattle.figures.proofs.Theorem.{reduced_products, combination_closes, combination_orthogonal}

module _ (f : Figure) (d e : ℕ → ℤ) where
  -- the reduced coefficients A and B, and the sums of their products
  abbrev A : ℕ → ℤ
  A = reduced_coefficient f d

  abbrev B : ℕ → ℤ
  B = reduced_coefficient f e

  abbrev AA : ℤ
  AA = squares (angle_count f) A

  abbrev AB : ℤ
  AB = dot (angle_count f) A B

  abbrev BB : ℤ
  BB = squares (angle_count f) B

  abbrev pub determinant : ℤ
  determinant = AA *ℤ BB -ℤ AB *ℤ AB

  pub determinant_natural : pos 0 ≤ℤ determinant
  determinant_natural = products_within (angle_count f) A B

  module _ (wa wb : ℤ) where
    abbrev factor : ℤ
    factor = neg_ℤ (pos 100) *ℤ pos (denominator f)

    abbrev first : ℤ
    first = BB *ℤ wa -ℤ AB *ℤ wb

    abbrev second : ℤ
    second = AA *ℤ wb -ℤ AB *ℤ wa

    -- the numerator of an angle's correction over the determinant
    abbrev pub correction : ℕ → ℤ
    correction i = factor *ℤ (A i *ℤ first +ℤ B i *ℤ second)

    apart : (i : ℕ) → correction i ≡ factor *ℤ first *ℤ A i +ℤ factor *ℤ second *ℤ B i
    apart i = ring 5 (λ k a b p q. k ⊗ (a ⊗ p ⊕ b ⊗ q) ≐ k ⊗ p ⊗ a ⊕ k ⊗ q ⊗ b) tt factor (A i) (B i) first second

    -- every linear condition stays closed
    pub corrections_close : (j : ℕ) → j < condition_count f → condition_sum f correction j ≡ pos 0
    corrections_close = combination_closes f d e (factor *ℤ first) (factor *ℤ second) correction (λ i h. apart i)

    -- what changes no linear condition and neither sine sum is orthogonal to them
    pub corrections_orthogonal : (z : ℕ → ℤ) → ((j : ℕ) → j < condition_count f → condition_sum f z j ≡ pos 0)
        → dot (angle_count f) d z ≡ pos 0 → dot (angle_count f) e z ≡ pos 0 → dot (angle_count f) correction z ≡ pos 0
    corrections_orthogonal = combination_orthogonal f d e (factor *ℤ first) (factor *ℤ second) correction (λ i h. apart i)

    -- the sum over any differences u, by its sums with A and B
    over : (u : ℕ → ℤ) → dot (angle_count f) u correction ≡ factor *ℤ first *ℤ dot (angle_count f) u A +ℤ factor *ℤ second *ℤ dot (angle_count f) u B
    over u =
        dot_ext (angle_count f) u correction u (λ i. factor *ℤ first *ℤ A i +ℤ factor *ℤ second *ℤ B i) (λ i h. refl) (λ i h. apart i)
        ∙ dot_combined (angle_count f) (factor *ℤ first) (factor *ℤ second) u A B

    -- D taken to the sums
    gathered : (p q x y : ℤ)
        → factor *ℤ p *ℤ x +ℤ factor *ℤ q *ℤ y ≡ neg_ℤ (pos 100) *ℤ (p *ℤ (pos (denominator f) *ℤ x) +ℤ q *ℤ (pos (denominator f) *ℤ y))
    gathered p q x y =
        ring 6 (λ h d p q x y. h ⊗ d ⊗ p ⊗ x ⊕ h ⊗ d ⊗ q ⊗ y ≐ h ⊗ (p ⊗ (d ⊗ x) ⊕ q ⊗ (d ⊗ y))) tt (neg_ℤ (pos 100)) (pos (denominator f)) p q x y

    -- both misclosures are cancelled: Σ d·v = −100·wa and Σ e·v = −100·wb, over the determinant
    pub first_cancelled : dot (angle_count f) d correction ≡ neg_ℤ (pos 100) *ℤ (determinant *ℤ wa)
    first_cancelled =
        over d
        ∙ gathered first second (dot (angle_count f) d A) (dot (angle_count f) d B)
        ∙ ap₂ (λ (x y : ℤ). neg_ℤ (pos 100) *ℤ (first *ℤ x +ℤ second *ℤ y)) (reduced_products f d d) (reduced_products f d e)
        ∙ ap (λ (t : ℤ). neg_ℤ (pos 100) *ℤ t)
        (ring 5 (λ aa ab bb wa wb. (bb ⊗ wa ⊖ ab ⊗ wb) ⊗ aa ⊕ (aa ⊗ wb ⊖ ab ⊗ wa) ⊗ ab ≐ (aa ⊗ bb ⊖ ab ⊗ ab) ⊗ wa) tt AA AB BB wa wb)

    pub second_cancelled : dot (angle_count f) e correction ≡ neg_ℤ (pos 100) *ℤ (determinant *ℤ wb)
    second_cancelled =
        over e
        ∙ gathered first second (dot (angle_count f) e A) (dot (angle_count f) e B)
        ∙ ap₂ (λ (x y : ℤ). neg_ℤ (pos 100) *ℤ (first *ℤ x +ℤ second *ℤ y)) (reduced_products f e d ∙ dot_comm (angle_count f) B A) (reduced_products f e e)
        ∙ ap (λ (t : ℤ). neg_ℤ (pos 100) *ℤ t)
        (ring 5 (λ aa ab bb wa wb. (bb ⊗ wa ⊖ ab ⊗ wb) ⊗ ab ⊕ (aa ⊗ wb ⊖ ab ⊗ wa) ⊗ bb ≐ (aa ⊗ bb ⊖ ab ⊗ ab) ⊗ wb) tt AA AB BB wa wb)
