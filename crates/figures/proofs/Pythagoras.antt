-- Pythagoras in whole numbers: corrections x / q and y / p whose difference is orthogonal to y. Nothing here knows of conditions. Assumes
-- nothing.
use Rattle.std.specs.Prelude.{◌≡◌, refl, ℕ, ◌<◌, ℤ, pos, neg_ℤ, ◌+ℤ◌, ◌-ℤ◌, ◌*ℤ◌, ◌≤ℤ◌}
use Rattle.vocabulary.specs.{sym, ap, ap₂, ◌∙◌, subst, +ℤ_idr, +ℤ_invr, *ℤ-zero}
use Rattle.whole.specs.Sums.{dot, squares}
use Rattle.whole.proofs.{Integers.negℤ-*ℤ, Ring.ring, Ring.difference_zero, Ring.◌≐◌, Ring.◌⊕◌, Ring.◌⊖◌, Ring.◌⊗◌}
use Rattle.whole.proofs.Order.{≤ℤ-from-difference}
use Rattle.whole.proofs.Sums.{sum_ext, sum_add, sum_scale, dot_ext, dot_combined, squares_nonnegative, squares_zero}

module _ (N : ℕ) (p q : ℤ) (x y : ℕ → ℤ) where
  -- how far x / q lies from y / p, times p·q
  abbrev pub excess : ℕ → ℤ
  excess i = p *ℤ x i -ℤ q *ℤ y i

  -- it changes no sum of products that x / q and y / p change alike
  pub unchanged : (u : ℕ → ℤ) → p *ℤ dot N u x ≡ q *ℤ dot N u y → dot N u excess ≡ pos 0
  unchanged u alike =
      dot_ext N u excess u (λ i. p *ℤ x i +ℤ neg_ℤ q *ℤ y i) (λ i b. refl) (λ i b. ap (λ (t : ℤ). p *ℤ x i +ℤ t) (sym (negℤ-*ℤ q (y i))))
      ∙ dot_combined N p (neg_ℤ q) u x y
      ∙ ap₂ ◌+ℤ◌ alike (negℤ-*ℤ q (dot N u y))
      ∙ +ℤ_invr (q *ℤ dot N u y)

  module _ (orthogonal : dot N y excess ≡ pos 0) where
    -- the sum of squares of x is that of y and that of the excess
    pythagoras : p *ℤ p *ℤ squares N x ≡ q *ℤ q *ℤ squares N y +ℤ squares N excess
    unfolding dot
    pythagoras =
        sym (sum_scale N (p *ℤ p) (λ i. x i *ℤ x i))
        ∙ sum_ext N (λ i. p *ℤ p *ℤ (x i *ℤ x i)) (λ i. q *ℤ q *ℤ (y i *ℤ y i) +ℤ excess i *ℤ excess i +ℤ (q +ℤ q) *ℤ (y i *ℤ excess i))
        (λ i b. ring 4 (λ p q x y. p ⊗ p ⊗ (x ⊗ x) ≐ q ⊗ q ⊗ (y ⊗ y) ⊕ (p ⊗ x ⊖ q ⊗ y) ⊗ (p ⊗ x ⊖ q ⊗ y) ⊕ (q ⊕ q) ⊗ (y ⊗ (p ⊗ x ⊖ q ⊗ y))) tt p q (x i) (y i))
        ∙ sum_add N (λ i. q *ℤ q *ℤ (y i *ℤ y i) +ℤ excess i *ℤ excess i) (λ i. (q +ℤ q) *ℤ (y i *ℤ excess i))
        ∙ ap₂ ◌+ℤ◌
        (sum_add N (λ i. q *ℤ q *ℤ (y i *ℤ y i)) (λ i. excess i *ℤ excess i)
        ∙ ap (λ (t : ℤ). t +ℤ squares N excess) (sum_scale N (q *ℤ q) (λ i. y i *ℤ y i)))
        (sum_scale N (q +ℤ q) (λ i. y i *ℤ excess i) ∙ ap (λ (t : ℤ). (q +ℤ q) *ℤ t) orthogonal ∙ *ℤ-zero (q +ℤ q))
        ∙ +ℤ_idr (q *ℤ q *ℤ squares N y +ℤ squares N excess)

    -- x / q has no smaller sum of squares than y / p
    pub never_below : (q *ℤ q *ℤ squares N y) ≤ℤ (p *ℤ p *ℤ squares N x)
    never_below =
        ≤ℤ-from-difference (q *ℤ q *ℤ squares N y) (p *ℤ p *ℤ squares N x)
        (subst (λ (t : ℤ). pos 0 ≤ℤ t)
        (ring 2 (λ a b. b ≐ a ⊕ b ⊖ a) tt (q *ℤ q *ℤ squares N y) (squares N excess)
        ∙ ap (λ (t : ℤ). t -ℤ q *ℤ q *ℤ squares N y) (sym pythagoras))
        (squares_nonnegative N excess))

    -- and where the two sums are equal, the corrections are the same
    pub only_the_same : q *ℤ q *ℤ squares N y ≡ p *ℤ p *ℤ squares N x → (i : ℕ) → i < N → p *ℤ x i ≡ q *ℤ y i
    only_the_same e i b = difference_zero (p *ℤ x i) (q *ℤ y i) (squares_zero N excess none i b)
      where
        none : squares N excess ≡ pos 0
        none =
            ring 2 (λ a b. b ≐ a ⊕ b ⊖ a) tt (q *ℤ q *ℤ squares N y) (squares N excess)
            ∙ ap (λ (t : ℤ). t -ℤ q *ℤ q *ℤ squares N y) (sym pythagoras ∙ sym e)
            ∙ +ℤ_invr (q *ℤ q *ℤ squares N y)
