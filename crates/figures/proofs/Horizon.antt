-- The horizon of a point inside n corners, which code 2 does not list: whatever is summed, the horizon and the corners together are the
-- triangles. For of each triangle the first angle stands in the horizon, the second in its own corner and the last in the next. Assumes
-- nothing.
use Rattle.std.specs.Prelude.{Bool, cond, ◌≡◌, refl, ℕ, zero, suc, ◌+◌, ◌-◌, ◌*◌, ◌<◌, T, ℤ, ◌+ℤ◌}
use Rattle.vocabulary.specs.{sym, ap, ap₂, ◌∙◌, arith, ne_eqb, +ℤ_comm, +ℤ_idl}
use Rattle.whole.specs.Sums.{sum}
use Rattle.whole.proofs.{Sums.sum_ext, Sums.sum_add, Sums.sum_front, Ring.◌⊕◌, Ring.◌≐◌, Ring.ring}
use Rattle.figures.specs.{declared.Figure.Figure, Figure.description, Figure.angle_count}
use Rattle.figures.specs.Numerators.{condition_sum, horizon_sum}
use Rattle.figures.proofs.Families.{is_point_inside, last_before, point_inside_lem, triangle_sum}

-- the last angles of all triangles, one corner later
last_angles : (n : ℕ) (x : ℕ → ℤ) → sum n (λ i. x (last_before (3 * n) (3 * i))) ≡ sum n (λ i. x (3 * i + 2))
unfolding sum
last_angles zero x = refl
last_angles (suc n) x =
    sum_front n (λ i. x (last_before (3 * suc n) (3 * i)))
    ∙ ap₂ ◌+ℤ◌ (ap x first) (sum_ext n _ _ (λ i h. ap x (next i)))
    ∙ +ℤ_comm (x (3 * n + 2)) (sum n (λ i. x (3 * i + 2)))
  where
    first : last_before (3 * suc n) (3 * 0) ≡ 3 * n + 2
    first = omega arith

    next : (i : ℕ) → last_before (3 * suc n) (3 * suc i) ≡ 3 * i + 2
    next i = ap (λ (b : Bool). cond b (3 * suc n) (3 * suc i) - 1) (ne_eqb (3 * suc i) 0 (λ e. omega (arith, e))) ∙ omega arith

three : (x : ℕ → ℤ) (j : ℕ) → sum 3 (λ k. x (3 * j + 1 * k)) ≡ x (0 + 3 * j) +ℤ x (3 * j + 1) +ℤ x (3 * j + 2)
unfolding sum
three x j =
    let first : 3 * j + 0 ≡ 0 + 3 * j = omega arith in
    ap (λ (t : ℤ). t +ℤ x (3 * j + 1) +ℤ x (3 * j + 2)) (+ℤ_idl (x (3 * j + 0)) ∙ ap x first)

pub horizon_and_corners : (f : Figure) → T (is_point_inside f) → (x : ℕ → ℤ)
    → horizon_sum f x +ℤ sum (description f).n (λ i. condition_sum f x ((description f).n + i)) ≡ sum (description f).n (condition_sum f x)
horizon_and_corners f p x =
    let n = (description f).n in
    let point = point_inside_lem f p in
    let firsts : ℤ = sum n (λ i. x (0 + 3 * i)) in
    let seconds : ℤ = sum n (λ i. x (3 * i + 1)) in
    let lasts : ℤ = sum n (λ i. x (3 * i + 2)) in
    let corners : sum n (λ i. condition_sum f x (n + i)) ≡ lasts +ℤ seconds =
    sum_ext n _ _ (point.corner_sum x) ∙ sum_add n _ _ ∙ ap (λ (s : ℤ). s +ℤ seconds) (last_angles n x) in
    let triangles : sum n (condition_sum f x) ≡ firsts +ℤ seconds +ℤ lasts =
    sum_ext n _ _ (λ j h. triangle_sum f x j h ∙ three x j) ∙ sum_add n _ _ ∙ ap (λ (s : ℤ). s +ℤ lasts) (sum_add n _ _) in
    ap₂ ◌+ℤ◌ (point.inner_angles x) corners ∙ ring 3 (λ a b c. a ⊕ (c ⊕ b) ≐ a ⊕ b ⊕ c) tt firsts seconds lasts ∙ sym triangles

-- numbers that agree at every angle have the same horizon
pub horizon_agrees : (f : Figure) → T (is_point_inside f) → (x y : ℕ → ℤ) → ((i : ℕ) → i < angle_count f → x i ≡ y i) → horizon_sum f x ≡ horizon_sum f y
horizon_agrees f p x y same =
    let point = point_inside_lem f p in
    let three-each : angle_count f ≡ 3 * (description f).n = point.angles in
    point.inner_angles x
    ∙ sum_ext (description f).n _ _ (λ k h. same (0 + 3 * k) (omega (arith, three-each, h)))
    ∙ sym (point.inner_angles y)
