-- What is listed by a rule is the rule within the list; and a sum over a condition and a numerator look only at the figure's own angles
-- and conditions. Assumes nothing.
use Rattle.std.specs.Prelude.{◌≡◌, refl, List, [], ◌∷◌, ℕ, zero, suc, ◌≤◌, ◌<◌, T, leb, ℤ, pos, nat_abs, ◌+ℤ◌, length}
use Rattle.vocabulary.specs.{sym, ap, ap₂, ◌∙◌, subst, zero-le, dec_lt, arith, leb→le, list-get_or_eq_default}
use Rattle.whole.specs.{Lists.listed, Lists.every, Sums.table, Sums.vector}
use Rattle.whole.proofs.{Computed.and_left, Computed.and_right, Lists.length_listed, Lists.get_or_listed, Lists.listed_ext, Sums.applied_ext}
use Rattle.figures.specs.{declared.Figure.Figure, Figure.description, Figure.angle_count, Figure.condition_count, Figure.members_of}
use Rattle.figures.specs.Numerators.{sum_over, condition_sum, numerator}
use Rattle.figures.proofs.Figures.{is_among, members_are_angles}
use Rattle.pass_steps.specs.Premises.{Within}

pub listed_at : (n : ℕ) (g : ℕ → ℤ) (i : ℕ) → i < n → vector (listed n g) i ≡ g i
listed_at n g i h = get_or_listed n g i (pos 0) h

pub listed_within : (n : ℕ) (g : ℕ → ℤ) (most : ℕ) → ((i : ℕ) → i < n → nat_abs (g i) ≤ most) → Within most (listed n g)
listed_within n g most h i = go (dec_lt i n)
  where
    go : Dec (i < n) → nat_abs (vector (listed n g) i) ≤ most
    go (yes b) = subst (λ (z : ℤ). nat_abs z ≤ most) (sym (listed_at n g i b)) (h i b)
    go (no b) = subst (λ (z : ℤ). nat_abs z ≤ most) (sym (list-get_or_eq_default (listed n g) (pos 0) (omega (arith, length_listed n g)))) zero-le

-- what a rule lists, read off the list and worked on
pub listed_after : {A : Type 0} (n : ℕ) (g : ℕ → ℤ) (x : List ℤ) (after : ℕ → ℤ → A) {count : ℕ} → x ≡ listed n g → count ≡ n
    → listed count (λ i. after i (vector x i)) ≡ listed n (λ i. after i (g i))
listed_after n g x after e c =
    ap₂ (λ (l : List ℤ) (k : ℕ). listed k (λ i. after i (vector l i))) e c
    ∙ listed_ext n (λ i. after i (vector (listed n g) i)) (λ i. after i (g i)) (λ i h. ap (after i) (listed_at n g i h))

pub length_of : (n : ℕ) (g : ℕ → ℤ) {x : List ℤ} → x ≡ listed n g → length x ≡ n
length_of n g e = ap length e ∙ length_listed n g

sum_over_ext : (N : ℕ) (members : List ℕ) (x y : ℕ → ℤ) → T (every (is_among N) members) → ((i : ℕ) → i < N → x i ≡ y i) → sum_over members x ≡ sum_over members y
unfolding sum_over
sum_over_ext N [] x y t h = refl
sum_over_ext N (zero ∷ others) x y t h = absurd (and_left (is_among N zero) (every (is_among N) others) t)
sum_over_ext N (suc i ∷ others) x y t h =
    ap₂ ◌+ℤ◌ (h i (leb→le (suc i) N (and_right (leb 1 (suc i)) (leb (suc i) N) (and_left (is_among N (suc i)) (every (is_among N) others) t))))
    (sum_over_ext N others x y (and_right (is_among N (suc i)) (every (is_among N) others) t) h)

pub condition_ext : (f : Figure) (x y : ℕ → ℤ) → ((i : ℕ) → i < angle_count f → x i ≡ y i) → (j : ℕ) → j < condition_count f → condition_sum f x j ≡ condition_sum f y j
unfolding condition_sum
condition_ext f x y h j b = sum_over_ext (angle_count f) (members_of f (suc j)) x y (members_are_angles f j b) h

pub numerator_ext : (f : Figure) (v w : ℕ → ℤ) → ((j : ℕ) → j < condition_count f → v j ≡ w j) → (i : ℕ) → numerator f v i ≡ numerator f w i
unfolding numerator
numerator_ext f v w h i = applied_ext (condition_count f) (table (description f).rows) v w h i
