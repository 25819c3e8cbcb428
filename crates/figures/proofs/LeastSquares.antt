-- The least-squares theorem, over any certified table. N is the number of angles, M that of conditions, C says which angles a condition
-- joins, R holds the coefficient rows over the denominator D, and K the correlates. Nothing here names a figure. Assumes nothing.
use Rattle.std.specs.Prelude.{◌≡◌, refl, ℕ, ◌<◌, ℤ, pos, neg_ℤ, ◌+ℤ◌, ◌*ℤ◌, ◌≤ℤ◌}
use Rattle.vocabulary.specs.{sym, ap, ap₂, ◌∙◌, +ℤ_idr}
use Rattle.whole.specs.Sums.{dot, squares, applied, composed, identity, transposed}
use Rattle.whole.proofs.Ring.{ring, constant, ◌≐◌, ◌⊕◌, ◌⊗◌, ⊝◌}
use Rattle.whole.proofs.Sums.{sum_ext, sum_add, sum_scale, dot_ext, dot_zero, applied_rows, applied_multiple, applied_add, applied_scale, applied_composed, applied_identity, moved}
use Rattle.figures.proofs.Pythagoras as Pythagoras

-- C·R = −D·I, and every row of R is a combination of rows of C: R = Cᵀ·K
pub record Certified (N M : ℕ) (D : ℤ) (C R K : ℕ → ℕ → ℤ) : Type 0 where
  pub cancels : (j k : ℕ) → j < M → k < M → composed N C R j k ≡ neg_ℤ D *ℤ identity j k
  pub spanned : (i j : ℕ) → i < N → j < M → R i j ≡ composed M (transposed C) K i j

module _ {N M : ℕ} {D : ℤ} {C R K : ℕ → ℕ → ℤ} (certified : Certified N M D C R K) where
  -- the numerators of any misclosures cancel them: C·(R·w) = −D·w
  pub cancelled : (w : ℕ → ℤ) (j : ℕ) → j < M → applied N C (applied M R w) j ≡ neg_ℤ D *ℤ w j
  cancelled w j b =
      sym (applied_composed M N C R w j)
      ∙ applied_rows M (composed N C R) (λ i k. neg_ℤ D *ℤ identity i k) w j (λ k c. certified.cancels j k b c)
      ∙ applied_multiple M (neg_ℤ D) identity w j
      ∙ ap (λ (t : ℤ). neg_ℤ D *ℤ t) (applied_identity M w j b)

  -- each numerator is a sum of the correlates of the conditions that join its angle
  pub correlated : (w : ℕ → ℤ) (i : ℕ) → i < N → applied M R w i ≡ applied M (transposed C) (applied M K w) i
  correlated w i b =
      applied_rows M R (composed M (transposed C) K) w i (λ j c. certified.spanned i j b c)
      ∙ applied_composed M M (transposed C) K w i

  -- numerators are orthogonal to whatever changes no condition
  pub orthogonal : (w e : ℕ → ℤ) → ((j : ℕ) → j < M → applied N C e j ≡ pos 0) → dot N (applied M R w) e ≡ pos 0
  orthogonal w e h =
      dot_ext N (applied M R w) e (applied M (transposed C) (applied M K w)) e (correlated w) (λ i b. refl)
      ∙ moved N M C (applied M K w) e
      ∙ dot_zero M (applied M K w) (applied N C e) h

  module _ (q : ℤ) (w x : ℕ → ℤ) (same : (j : ℕ) → j < M → applied N C x j ≡ neg_ℤ q *ℤ w j) where
    -- how far x / q lies from the exact corrections, times D·q
    abbrev excess : ℕ → ℤ
    excess = Pythagoras.excess N D q x (applied M R w)

    excess_closes : (j : ℕ) → j < M → applied N C excess j ≡ pos 0
    unfolding applied
    excess_closes j b =
        Pythagoras.unchanged N D q x (applied M R w) (C j)
        (ap (λ (t : ℤ). D *ℤ t) (same j b)
        ∙ ring 3 (λ D q w. D ⊗ (⊝ q ⊗ w) ≐ q ⊗ (⊝ D ⊗ w)) tt D q (w j)
        ∙ ap (λ (t : ℤ). q *ℤ t) (sym (cancelled w j b)))

    apart : dot N (applied M R w) excess ≡ pos 0
    apart = orthogonal w excess excess_closes

    -- no corrections x / q that cancel the misclosures have a smaller sum of squares than the exact corrections
    pub least : (q *ℤ q *ℤ squares N (applied M R w)) ≤ℤ (D *ℤ D *ℤ squares N x)
    least = Pythagoras.never_below N D q x (applied M R w) apart

    -- and where the two sums are equal, x / q are the exact corrections
    pub unique : q *ℤ q *ℤ squares N (applied M R w) ≡ D *ℤ D *ℤ squares N x → (i : ℕ) → i < N → D *ℤ x i ≡ q *ℤ applied M R w i
    unique = Pythagoras.only_the_same N D q x (applied M R w) apart

  module _ (d : ℕ → ℤ) where
    -- document 01, "The two passes": D·d plus the first-pass numerator for misclosures equal to each condition's sum of d
    abbrev pub reduced : ℕ → ℤ
    reduced i = D *ℤ d i +ℤ applied M R (applied N C d) i

    -- the reduced coefficients change no condition
    pub reduced_closes : (j : ℕ) → j < M → applied N C reduced j ≡ pos 0
    reduced_closes j b =
        applied_add N C (λ i. D *ℤ d i) (applied M R (applied N C d)) j
        ∙ ap₂ ◌+ℤ◌ (applied_scale N C D d j) (cancelled (applied N C d) j b)
        ∙ ring 2 (λ D s. D ⊗ s ⊕ ⊝ D ⊗ s ≐ constant (pos 0)) tt D (applied N C d j)

  -- D times the sum of the products of d with the reduced coefficients of e is the sum of the products of both reduced coefficients
  pub reduced_products : (d e : ℕ → ℤ) → D *ℤ dot N d (reduced e) ≡ dot N (reduced d) (reduced e)
  unfolding dot
  reduced_products d e =
      sym (+ℤ_idr (D *ℤ dot N d (reduced e)))
      ∙ ap₂ ◌+ℤ◌ (sym (sum_scale N D (λ i. d i *ℤ reduced e i))) (sym (orthogonal (applied N C d) (reduced e) (reduced_closes e)))
      ∙ sym (sum_add N (λ i. D *ℤ (d i *ℤ reduced e i)) (λ i. applied M R (applied N C d) i *ℤ reduced e i))
      ∙ sum_ext N (λ i. D *ℤ (d i *ℤ reduced e i) +ℤ applied M R (applied N C d) i *ℤ reduced e i) (λ i. reduced d i *ℤ reduced e i)
      (λ i b. ring 4 (λ D d n b. D ⊗ (d ⊗ b) ⊕ n ⊗ b ≐ (D ⊗ d ⊕ n) ⊗ b) tt D (d i) (applied M R (applied N C d) i) (reduced e i))
