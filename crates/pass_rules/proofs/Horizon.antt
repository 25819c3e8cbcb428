-- The horizon of code 2, which is not listed (document 02, M-101): where the fixed angles sum as number 14 asks, corrections that cancel
-- every listed misclosure close it too. Of both n, over the figure. Assumes nothing.
use Rattle.std.specs.Prelude.{ℕ, zero, suc, ◌+◌, ◌*◌, ◌<◌, List, [], ◌∷◌, ◌≡◌, refl, T, ℤ, pos, neg_ℤ, ◌+ℤ◌, ◌-ℤ◌, ◌*ℤ◌, length, get_or}
use Rattle.vocabulary.specs.{sym, ap, ap₂, ◌∙◌, arith}
use Rattle.whole.specs.Sums.{sum}
use Rattle.whole.proofs.Ring.{constant, ◌⊕◌, ◌⊖◌, ◌⊗◌, ⊝◌, ◌≐◌, ring}
use Rattle.whole.proofs.Sums.{sum_ext, sum_add, sum_scale, sum_front}
use Rattle.refusals.specs.Table.{sum_of_all, fixed_sum}
use Rattle.figures.specs.{declared.Figure.Figure, Figure.Target, Numerators.condition_sum, Numerators.horizon_sum}
use Rattle.figures.specs.Figure.{description, condition_count, fixed_count, target_of}
use Rattle.figures.proofs.{Families.is_point_inside, Families.point_inside_lem, Families.triangle_target, Horizon.horizon_and_corners}
use Rattle.pass_rules.specs.{FirstPass.should_be, FirstPass.misclosure, Pass.given}

-- the values of a list, summed by the index
sum_values : (values : List ℕ) → sum (length values) (λ i. pos (get_or values i 0)) ≡ pos (sum_of_all values)
unfolding sum
sum_values [] = refl
sum_values (value ∷ others) = sum_front (length others) _ ∙ ap (λ (z : ℤ). pos value +ℤ z) (sum_values others)

sum_same : (n value : ℕ) → sum n (λ i. pos value) ≡ pos (n * value)
unfolding sum
sum_same zero value = ap pos (omega arith)
sum_same (suc n) value = ap (λ (z : ℤ). z +ℤ pos value) (sum_same n value) ∙ ap pos (omega arith)

module _ (f : Figure) (p : T (is_point_inside f)) (angles fixed : List ℕ) (many : length fixed ≡ fixed_count f)
    (summed : sum_of_all fixed ≡ fixed_sum (length fixed)) (q : ℕ) (x : ℕ → ℤ)
    (cancel : (j : ℕ) → j < condition_count f → condition_sum f x j ≡ neg_ℤ (pos q) *ℤ misclosure f angles fixed j) where
  abbrev n : ℕ
  n = (description f).n

  -- what the angles of a condition should sum to
  abbrev should : ℕ → ℤ
  should j = should_be (target_of f (suc j)) fixed

  corrected_sum : (j : ℕ) → j < condition_count f → pos q *ℤ condition_sum f (given angles) j +ℤ condition_sum f x j ≡ pos q *ℤ should j
  unfolding misclosure
  corrected_sum j h =
      ap (λ (z : ℤ). pos q *ℤ condition_sum f (given angles) j +ℤ z) (cancel j h)
      ∙ ring 3 (λ q s t. q ⊗ s ⊕ (⊝ q) ⊗ (s ⊖ t) ≐ q ⊗ t) tt (pos q) (condition_sum f (given angles) j) (should j)

  -- of n conditions, wherever they stand
  all_corrected : (place : ℕ → ℕ) → ((i : ℕ) → i < n → place i < condition_count f)
      → pos q *ℤ sum n (λ i. condition_sum f (given angles) (place i)) +ℤ sum n (λ i. condition_sum f x (place i)) ≡ pos q *ℤ sum n (λ i. should (place i))
  all_corrected place within =
      ap (λ (z : ℤ). z +ℤ sum n (λ i. condition_sum f x (place i))) (sym (sum_scale n (pos q) _))
      ∙ sym (sum_add n _ _) ∙ sum_ext n _ _ (λ i h. corrected_sum (place i) (within i h)) ∙ sum_scale n (pos q) _

  triangles_should : sum n should ≡ pos (n * 6_480_000)
  triangles_should = sum_ext n _ _ (λ j h. ap (λ (t : Target). should_be t fixed) (triangle_target f j h)) ∙ sum_same n 6_480_000

  corners_should : sum n (λ i. should (n + i)) ≡ pos (sum_of_all fixed)
  corners_should =
      sum_ext n _ _ (λ i h. ap (λ (t : Target). should_be t fixed) ((point_inside_lem f p).corner_target i h))
      ∙ ap (λ (m : ℕ). sum m (λ i. pos (get_or fixed i 0))) (sym (many ∙ (point_inside_lem f p).fixed)) ∙ sum_values fixed

  turns : pos (n * 6_480_000) ≡ pos (sum_of_all fixed) +ℤ pos 12_960_000
  turns = ap pos (sym (ap (λ (s : ℕ). s + 12_960_000) (summed ∙ ap fixed_sum many) ∙ (point_inside_lem f p).turns))

  abbrev corner_sums : (ℕ → ℤ) → ℤ
  corner_sums y = sum n (λ i. condition_sum f y (n + i))

  pub horizon_closes : pos q *ℤ (horizon_sum f (given angles) -ℤ pos 12_960_000) +ℤ horizon_sum f x ≡ pos 0
  horizon_closes =
      let two : condition_count f ≡ 2 * n = (point_inside_lem f p).conditions in
      let triangles = all_corrected (λ i. i) (λ i h. omega (arith, two, h)) in
      let corners = all_corrected (λ i. n + i) (λ i h. omega (arith, two, h)) in
      ring 6 (λ q a c x y t. q ⊗ (a ⊖ t) ⊕ x ≐ q ⊗ (a ⊕ c) ⊕ (x ⊕ y) ⊖ (q ⊗ c ⊕ y) ⊖ q ⊗ t) tt
      (pos q) (horizon_sum f (given angles)) (corner_sums (given angles)) (horizon_sum f x) (corner_sums x) (pos 12_960_000)
      ∙ ap₂ (λ (u v : ℤ). u -ℤ v -ℤ pos q *ℤ pos 12_960_000)
      (ap₂ (λ (s t : ℤ). pos q *ℤ s +ℤ t) (horizon_and_corners f p (given angles)) (horizon_and_corners f p x)
      ∙ triangles ∙ ap (λ (z : ℤ). pos q *ℤ z) (triangles_should ∙ turns))
      (corners ∙ ap (λ (z : ℤ). pos q *ℤ z) corners_should)
      ∙ ring 3 (λ q s t. q ⊗ (s ⊕ t) ⊖ q ⊗ s ⊖ q ⊗ t ≐ constant (pos 0)) tt (pos q) (pos (sum_of_all fixed)) (pos 12_960_000)
