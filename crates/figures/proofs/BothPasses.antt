-- Both passes together (document 02, M-107), of every figure: first numerators over D, of misclosures w, and second numerators over any S
-- that change no condition. What cancels w too, and changes every sine sum as they do, has no smaller sum of squares. Assumes nothing.
use Rattle.std.specs.Prelude.{◌≡◌, ℕ, ◌<◌, ℤ, pos, neg_ℤ, ◌+ℤ◌, ◌*ℤ◌, ◌≤ℤ◌}
use Rattle.vocabulary.specs.{sym, ap, ap₂, ◌∙◌, *ℤ-zero}
use Rattle.whole.specs.Sums.{dot, squares}
use Rattle.whole.proofs.{Ring.ring, Ring.◌≐◌, Ring.◌⊕◌, Ring.◌⊗◌, Ring.⊝◌, Ring.constant, Sums.dot_comm, Sums.dot_combined}
use Rattle.figures.specs.{declared.Figure.Figure, Figure.denominator, Figure.angle_count, Figure.condition_count}
use Rattle.figures.specs.Numerators.{condition_sum, numerator}
use Rattle.figures.proofs.Pythagoras as Pythagoras
use Rattle.figures.proofs.Theorem.{condition_combined, condition_unchanged, numerators_cancel, numerators_orthogonal}

module _ (f : Figure) (w second : ℕ → ℤ) (S : ℤ) where
  abbrev N : ℕ
  N = angle_count f

  abbrev D : ℤ
  D = pos (denominator f)

  -- first / D + second / S, over D·S
  abbrev pub together : ℕ → ℤ
  together i = S *ℤ numerator f w i +ℤ D *ℤ second i

  module _ (closes : (j : ℕ) → j < condition_count f → condition_sum f second j ≡ pos 0) where
    -- they cancel every linear misclosure
    pub together_cancel : (j : ℕ) → j < condition_count f → condition_sum f together j ≡ neg_ℤ (D *ℤ S) *ℤ w j
    together_cancel j b =
        condition_combined f S D (numerator f w) second j b
        ∙ ap₂ (λ (s t : ℤ). S *ℤ s +ℤ D *ℤ t) (numerators_cancel f w j b) (closes j b)
        ∙ ring 3 (λ S D w. S ⊗ (⊝ D ⊗ w) ⊕ D ⊗ constant (pos 0) ≐ ⊝ (D ⊗ S) ⊗ w) tt S D (w j)

    module _ (q : ℤ) (x : ℕ → ℤ) (cancels : (j : ℕ) → j < condition_count f → condition_sum f x j ≡ neg_ℤ q *ℤ w j) where
      -- how far x / q lies from them, times D·S·q
      abbrev pub excess : ℕ → ℤ
      excess = Pythagoras.excess N (D *ℤ S) q x together

      -- it changes no linear condition
      pub excess_closes : (j : ℕ) → j < condition_count f → condition_sum f excess j ≡ pos 0
      excess_closes j b =
          condition_unchanged f (D *ℤ S) q x together j b
          (ap (λ (t : ℤ). D *ℤ S *ℤ t) (cancels j b)
          ∙ ring 3 (λ p q w. p ⊗ (⊝ q ⊗ w) ≐ q ⊗ (⊝ p ⊗ w)) tt (D *ℤ S) q (w j)
          ∙ ap (λ (t : ℤ). q *ℤ t) (sym (together_cancel j b)))

      -- nor any sum that x / q changes as they do
      pub excess_unchanged : (u : ℕ → ℤ) → D *ℤ S *ℤ dot N u x ≡ q *ℤ dot N u together → dot N u excess ≡ pos 0
      excess_unchanged = Pythagoras.unchanged N (D *ℤ S) q x together

      module _ (second-apart : dot N second excess ≡ pos 0) where
        apart : dot N together excess ≡ pos 0
        apart =
            dot_comm N together excess
            ∙ dot_combined N S D excess (numerator f w) second
            ∙ ap₂ (λ (s t : ℤ). S *ℤ s +ℤ D *ℤ t)
            (dot_comm N excess (numerator f w) ∙ numerators_orthogonal f w excess excess_closes) (dot_comm N excess second ∙ second-apart)
            ∙ ap₂ ◌+ℤ◌ (*ℤ-zero S) (*ℤ-zero D)

        pub never_below : (q *ℤ q *ℤ squares N together) ≤ℤ (D *ℤ S *ℤ (D *ℤ S) *ℤ squares N x)
        never_below = Pythagoras.never_below N (D *ℤ S) q x together apart

        pub only_the_same : q *ℤ q *ℤ squares N together ≡ D *ℤ S *ℤ (D *ℤ S) *ℤ squares N x
            → (i : ℕ) → i < N → D *ℤ S *ℤ x i ≡ q *ℤ together i
        only_the_same = Pythagoras.only_the_same N (D *ℤ S) q x together apart
