-- The least-squares theorem of every figure, in the words of its definitions: `condition_sum` sums over the angles that a condition joins,
-- `numerator` applies an angle's row. It cites the theorem over certified tables and the certificates. Assumes nothing.
use Rattle.std.specs.Prelude.{◌≡◌, refl, List, [], ◌∷◌, ℕ, zero, suc, ◌<◌, T, leb, ℤ, pos, neg_ℤ, ◌+ℤ◌, ◌*ℤ◌, ◌≤ℤ◌}
use Rattle.vocabulary.specs.{sym, ap, ap₂, ◌∙◌, leb→le, list-get_or_map, *ℤ-zero}
use Rattle.whole.specs.{Sums.dot, Sums.squares, Sums.applied, Sums.identity, Sums.table, Lists.every}
use Rattle.whole.proofs.Computed.{and_left, and_right}
use Rattle.whole.proofs.Sums.{dot_ext, dot_comm, dot_add, dot_scale, dot_combined, dot_zero, applied_ext, applied_add, applied_scale, applied_identity}
use Rattle.figures.specs.declared.Figure.{Figure}
use Rattle.figures.specs.Figure.{Condition, description, denominator, angle_count, condition_count, members_of}
use Rattle.figures.specs.Numerators.{sum_over, condition_sum, numerator, reduced_coefficient}
use Rattle.figures.proofs.Certificate.{joined, membership}
use Rattle.figures.proofs.Figures.{is_among, none, certified, members_are_angles}
use Rattle.figures.proofs.LeastSquares as LeastSquares
use Rattle.figures.proofs.Pythagoras as Pythagoras

-- ---- the sum over a condition's angles is its row of the membership table, applied

own : (N k : ℕ) (x : ℕ → ℤ) → k < N → dot N (λ i. identity (suc k) (suc i)) x ≡ x k
unfolding applied
own N k x b = applied_identity N x k b

joined_sum : (N : ℕ) (members : List ℕ) (x : ℕ → ℤ) → T (every (is_among N) members) → dot N (joined members) x ≡ sum_over members x
unfolding joined sum_over
joined_sum N [] x t = dot_comm N (λ i. pos 0) x ∙ dot_zero N x (λ i. pos 0) (λ i b. refl)
joined_sum N (zero ∷ others) x t = absurd (and_left (is_among N zero) (every (is_among N) others) t)
joined_sum N (suc k ∷ others) x t =
    dot_comm N (λ i. identity (suc k) (suc i) +ℤ joined others i) x
    ∙ dot_add N x (λ i. identity (suc k) (suc i)) (joined others)
    ∙ ap₂ ◌+ℤ◌ (dot_comm N x (λ i. identity (suc k) (suc i)) ∙ own N k x (leb→le (suc k) N (and_right (leb 1 (suc k)) (leb (suc k) N) (and_left (is_among N (suc k)) (every (is_among N) others) t))))
    (dot_comm N x (joined others) ∙ joined_sum N others x (and_right (is_among N (suc k)) (every (is_among N) others) t))

condition_applied : (f : Figure) (x : ℕ → ℤ) (j : ℕ) → j < condition_count f → applied (angle_count f) (membership (description f)) x j ≡ condition_sum f x j
unfolding applied membership condition_sum
condition_applied f x j b =
    ap (λ (members : List ℕ). dot (angle_count f) (joined members) x) (list-get_or_map (λ (c : Condition). c.angles) (description f).conditions j none)
    ∙ joined_sum (angle_count f) (members_of f (suc j)) x (members_are_angles f j b)

-- the sum over a condition reads the figure's own angles alone
pub condition_agrees : (f : Figure) (x y : ℕ → ℤ) → ((i : ℕ) → i < angle_count f → x i ≡ y i) → (j : ℕ) → j < condition_count f
    → condition_sum f x j ≡ condition_sum f y j
condition_agrees f x y same j b =
    sym (condition_applied f x j b) ∙ applied_ext (angle_count f) (membership (description f)) x y same j ∙ condition_applied f y j b

condition_scaled : (f : Figure) (c : ℤ) (x : ℕ → ℤ) (j : ℕ) → j < condition_count f → condition_sum f (λ i. c *ℤ x i) j ≡ c *ℤ condition_sum f x j
condition_scaled f c x j b =
    sym (condition_applied f (λ i. c *ℤ x i) j b)
    ∙ applied_scale (angle_count f) (membership (description f)) c x j
    ∙ ap (λ (t : ℤ). c *ℤ t) (condition_applied f x j b)

-- the sum over a condition of a sum of multiples
pub condition_combined : (f : Figure) (p q : ℤ) (x y : ℕ → ℤ) (j : ℕ) → j < condition_count f
    → condition_sum f (λ i. p *ℤ x i +ℤ q *ℤ y i) j ≡ p *ℤ condition_sum f x j +ℤ q *ℤ condition_sum f y j
condition_combined f p q x y j b =
    sym (condition_applied f (λ i. p *ℤ x i +ℤ q *ℤ y i) j b)
    ∙ applied_add (angle_count f) (membership (description f)) (λ i. p *ℤ x i) (λ i. q *ℤ y i) j
    ∙ ap₂ ◌+ℤ◌ (condition_applied f (λ i. p *ℤ x i) j b ∙ condition_scaled f p x j b) (condition_applied f (λ i. q *ℤ y i) j b ∙ condition_scaled f q y j b)

-- a condition that x / q and y / p change alike is not changed by how far they lie apart
pub condition_unchanged : (f : Figure) (p q : ℤ) (x y : ℕ → ℤ) (j : ℕ) → j < condition_count f
    → p *ℤ condition_sum f x j ≡ q *ℤ condition_sum f y j → condition_sum f (Pythagoras.excess (angle_count f) p q x y) j ≡ pos 0
unfolding applied
condition_unchanged f p q x y j b alike =
    sym (condition_applied f (Pythagoras.excess (angle_count f) p q x y) j b)
    ∙ Pythagoras.unchanged (angle_count f) p q x y (membership (description f) j)
    (ap (λ (t : ℤ). p *ℤ t) (condition_applied f x j b) ∙ alike ∙ ap (λ (t : ℤ). q *ℤ t) (sym (condition_applied f y j b)))

-- and a numerator the figure's own conditions alone
pub numerator_agrees : (f : Figure) (v w : ℕ → ℤ) → ((j : ℕ) → j < condition_count f → v j ≡ w j) → (i : ℕ) → numerator f v i ≡ numerator f w i
unfolding numerator
numerator_agrees f v w same i = applied_ext (condition_count f) _ v w same i

-- ---- the theorem

-- the numerators cancel the misclosures: C·num = −D·w
pub numerators_cancel : (f : Figure) (w : ℕ → ℤ) (j : ℕ) → j < condition_count f → condition_sum f (numerator f w) j ≡ neg_ℤ (pos (denominator f)) *ℤ w j
unfolding numerator
numerators_cancel f w j b = sym (condition_applied f (numerator f w) j b) ∙ LeastSquares.cancelled (certified f) w j b

-- they are orthogonal to whatever changes no condition
pub numerators_orthogonal : (f : Figure) (w z : ℕ → ℤ) → ((j : ℕ) → j < condition_count f → condition_sum f z j ≡ pos 0)
    → dot (angle_count f) (numerator f w) z ≡ pos 0
unfolding numerator
numerators_orthogonal f w z closes = LeastSquares.orthogonal (certified f) w z (λ j b. condition_applied f z j b ∙ closes j b)

module _ (f : Figure) (q : ℤ) (w x : ℕ → ℤ) (cancels : (j : ℕ) → j < condition_count f → condition_sum f x j ≡ neg_ℤ q *ℤ w j) where
  applied_cancels : (j : ℕ) → j < condition_count f → applied (angle_count f) (membership (description f)) x j ≡ neg_ℤ q *ℤ w j
  applied_cancels j b = condition_applied f x j b ∙ cancels j b

  -- corrections x / q that cancel the misclosures have no smaller sum of squares than the exact corrections num / D
  pub least_squares : (q *ℤ q *ℤ squares (angle_count f) (numerator f w)) ≤ℤ (pos (denominator f) *ℤ pos (denominator f) *ℤ squares (angle_count f) x)
  unfolding numerator
  least_squares = LeastSquares.least (certified f) q w x applied_cancels

  -- and where the two sums are equal, the corrections are the same
  pub only_least : q *ℤ q *ℤ squares (angle_count f) (numerator f w) ≡ pos (denominator f) *ℤ pos (denominator f) *ℤ squares (angle_count f) x
      → (i : ℕ) → i < angle_count f → pos (denominator f) *ℤ x i ≡ q *ℤ numerator f w i
  unfolding numerator
  only_least = LeastSquares.unique (certified f) q w x applied_cancels

-- ---- the reduced coefficients

module _ (f : Figure) (d : ℕ → ℤ) where
  reduced_is : (i : ℕ) → LeastSquares.reduced (certified f) d i ≡ reduced_coefficient f d i
  unfolding reduced_coefficient numerator
  reduced_is i =
      ap (λ (t : ℤ). pos (denominator f) *ℤ d i +ℤ t)
      (applied_ext (condition_count f) (table (description f).rows) (applied (angle_count f) (membership (description f)) d) (condition_sum f d) (condition_applied f d) i)

  -- they change no condition: C·A = 0
  pub reduced_closes : (j : ℕ) → j < condition_count f → condition_sum f (reduced_coefficient f d) j ≡ pos 0
  reduced_closes j b =
      sym (condition_applied f (reduced_coefficient f d) j b)
      ∙ applied_ext (angle_count f) (membership (description f)) (reduced_coefficient f d) (LeastSquares.reduced (certified f) d) (λ i c. sym (reduced_is i)) j
      ∙ LeastSquares.reduced_closes (certified f) d j b

  -- nor do any numbers that are one multiple of them
  pub multiple_closes : (c : ℤ) (x : ℕ → ℤ) → ((i : ℕ) → i < angle_count f → x i ≡ c *ℤ reduced_coefficient f d i) → (j : ℕ) → j < condition_count f
      → condition_sum f x j ≡ pos 0
  multiple_closes c x are j b =
      condition_agrees f x (λ i. c *ℤ reduced_coefficient f d i) are j b
      ∙ condition_scaled f c (reduced_coefficient f d) j b
      ∙ ap (λ (t : ℤ). c *ℤ t) (reduced_closes j b) ∙ *ℤ-zero c

-- they are orthogonal to whatever changes no condition and leaves the sum Σ d as it is
pub reduced_orthogonal : (f : Figure) (d z : ℕ → ℤ) → ((j : ℕ) → j < condition_count f → condition_sum f z j ≡ pos 0)
    → dot (angle_count f) d z ≡ pos 0 → dot (angle_count f) (reduced_coefficient f d) z ≡ pos 0
unfolding reduced_coefficient
reduced_orthogonal f d z closes still =
    let taken : ℕ → ℤ = numerator f (condition_sum f d) in
    dot_comm (angle_count f) (reduced_coefficient f d) z
    ∙ dot_add (angle_count f) z (λ i. pos (denominator f) *ℤ d i) taken
    ∙ ap₂ ◌+ℤ◌
    (dot_scale (angle_count f) (pos (denominator f)) z d
    ∙ ap (λ (t : ℤ). pos (denominator f) *ℤ t) (dot_comm (angle_count f) z d ∙ still) ∙ *ℤ-zero (pos (denominator f)))
    (dot_comm (angle_count f) z taken ∙ numerators_orthogonal f (condition_sum f d) z closes)

-- D·Σ d·B = Σ A·B, with A and B the reduced coefficients of d and e
pub reduced_products : (f : Figure) (d e : ℕ → ℤ)
    → pos (denominator f) *ℤ dot (angle_count f) d (reduced_coefficient f e) ≡ dot (angle_count f) (reduced_coefficient f d) (reduced_coefficient f e)
reduced_products f d e =
    ap (λ (t : ℤ). pos (denominator f) *ℤ t)
    (dot_ext (angle_count f) d (reduced_coefficient f e) d (LeastSquares.reduced (certified f) e) (λ i b. refl) (λ i b. sym (reduced_is f e i)))
    ∙ LeastSquares.reduced_products (certified f) d e
    ∙ dot_ext (angle_count f) (LeastSquares.reduced (certified f) d) (LeastSquares.reduced (certified f) e) (reduced_coefficient f d) (reduced_coefficient f e)
    (λ i b. reduced_is f d i) (λ i b. reduced_is f e i)

-- D·Σ d·A = Σ A²
pub reduced_squares : (f : Figure) (d : ℕ → ℤ)
    → pos (denominator f) *ℤ dot (angle_count f) d (reduced_coefficient f d) ≡ squares (angle_count f) (reduced_coefficient f d)
reduced_squares f d = reduced_products f d d

-- numbers that are a sum of multiples of two sets of reduced coefficients
module _ (f : Figure) (d e : ℕ → ℤ) (p q : ℤ) (x : ℕ → ℤ)
    (are : (i : ℕ) → i < angle_count f → x i ≡ p *ℤ reduced_coefficient f d i +ℤ q *ℤ reduced_coefficient f e i) where
  zeros : p *ℤ pos 0 +ℤ q *ℤ pos 0 ≡ pos 0
  zeros = ap₂ ◌+ℤ◌ (*ℤ-zero p) (*ℤ-zero q)

  -- change no condition
  pub combination_closes : (j : ℕ) → j < condition_count f → condition_sum f x j ≡ pos 0
  combination_closes j b =
      condition_agrees f x (λ i. p *ℤ reduced_coefficient f d i +ℤ q *ℤ reduced_coefficient f e i) are j b
      ∙ condition_combined f p q (reduced_coefficient f d) (reduced_coefficient f e) j b
      ∙ ap₂ (λ (s t : ℤ). p *ℤ s +ℤ q *ℤ t) (reduced_closes f d j b) (reduced_closes f e j b)
      ∙ zeros

  -- and are orthogonal to whatever changes no condition and neither of the sums Σ d and Σ e
  pub combination_orthogonal : (z : ℕ → ℤ) → ((j : ℕ) → j < condition_count f → condition_sum f z j ≡ pos 0)
      → dot (angle_count f) d z ≡ pos 0 → dot (angle_count f) e z ≡ pos 0 → dot (angle_count f) x z ≡ pos 0
  combination_orthogonal z closes still-d still-e =
      dot_comm (angle_count f) x z
      ∙ dot_ext (angle_count f) z x z (λ i. p *ℤ reduced_coefficient f d i +ℤ q *ℤ reduced_coefficient f e i) (λ i h. refl) are
      ∙ dot_combined (angle_count f) p q z (reduced_coefficient f d) (reduced_coefficient f e)
      ∙ ap₂ (λ (s t : ℤ). p *ℤ s +ℤ q *ℤ t) (turned d still-d) (turned e still-e)
      ∙ zeros
    where
      turned : (u : ℕ → ℤ) → dot (angle_count f) u z ≡ pos 0 → dot (angle_count f) z (reduced_coefficient f u) ≡ pos 0
      turned u still = dot_comm (angle_count f) z (reduced_coefficient f u) ∙ reduced_orthogonal f u z closes still
