-- Laws of finite sums and of tables (specs/Sums.antt): sums add, scale and may be taken in either order; a table of a table is applied as
-- one; a transposed table moves from one side of a sum of products to the other. Assumes nothing.
use Rattle.std.specs.Prelude.{◌≡◌, refl, ℕ, zero, suc, ◌+◌, ◌*◌, ◌≤◌, ◌<◌, ℤ, pos, negsuc, neg_ℤ, nat_abs, ◌+ℤ◌, ◌-ℤ◌, ◌*ℤ◌, ◌≤ℤ◌}
use Rattle.vocabulary.specs.{sym, ap, ap₂, ◌∙◌, subst, ⊎_elim, zero-le, le_of_suc-le-suc, not-suc-le-zero, eq-or-lt_of_le, add-one}
use Rattle.vocabulary.specs.{unary_clauses, arith, +ℤ_idr, +ℤ_idl, +ℤ_comm, *ℤ-zero, zero-*ℤ, *ℤ_comm, ≤ℤ_refl}
use Rattle.whole.specs.Sums.{sum, dot, squares, applied, composed, identity, transposed}
use Rattle.whole.proofs.{Integers.*ℤ-distribˡ, Integers.unit-*ℤ, Magnitudes.nat_abs_add}
use Rattle.whole.proofs.Ring.{ring, constant, ◌≐◌, ◌⊕◌, ◌⊖◌, ◌⊗◌, ⊝◌}
use Rattle.whole.proofs.Order.{natural, zero-≤ℤ-pos, nonnegative_sum, square_nonnegative, square_zero, left_zero}

-- ---- sums

pub sum_ext : (n : ℕ) (f g : ℕ → ℤ) → ((i : ℕ) → i < n → f i ≡ g i) → sum n f ≡ sum n g
unfolding sum
sum_ext zero f g h = refl
sum_ext (suc n) f g h = ap₂ ◌+ℤ◌ (sum_ext n f g (λ i b. h i (omega arith))) (h n (omega arith))

-- one more term, as a loop that counts adds it
pub sum_more : (n : ℕ) (f : ℕ → ℤ) → sum n f +ℤ f n ≡ sum (n + 1) f
unfolding sum
sum_more n f = ap (λ (k : ℕ). sum k f) (sym (add-one n))

pub sum_zero : (n : ℕ) → sum n (λ i. pos 0) ≡ pos 0
unfolding sum
sum_zero zero = refl
sum_zero (suc n) = +ℤ_idr (sum n (λ i. pos 0)) ∙ sum_zero n

pub sum_add : (n : ℕ) (f g : ℕ → ℤ) → sum n (λ i. f i +ℤ g i) ≡ sum n f +ℤ sum n g
unfolding sum
sum_add zero f g = refl
sum_add (suc n) f g =
    ap (λ (t : ℤ). t +ℤ (f n +ℤ g n)) (sum_add n f g)
    ∙ ring 4 (λ a b c d. a ⊕ b ⊕ (c ⊕ d) ≐ a ⊕ c ⊕ (b ⊕ d)) tt (sum n f) (sum n g) (f n) (g n)

pub sum_scale : (n : ℕ) (c : ℤ) (f : ℕ → ℤ) → sum n (λ i. c *ℤ f i) ≡ c *ℤ sum n f
unfolding sum
sum_scale zero c f = sym (*ℤ-zero c)
sum_scale (suc n) c f = ap (λ (t : ℤ). t +ℤ c *ℤ f n) (sum_scale n c f) ∙ sym (*ℤ-distribˡ c (sum n f) (f n))

pub sum_swap : (n m : ℕ) (f : ℕ → ℕ → ℤ) → sum n (λ i. sum m (f i)) ≡ sum m (λ j. sum n (λ i. f i j))
unfolding sum
sum_swap zero m f = sym (sum_zero m)
sum_swap (suc n) m f = ap (λ (t : ℤ). t +ℤ sum m (f n)) (sum_swap n m f) ∙ sym (sum_add m (λ j. sum n (λ i. f i j)) (f n))

-- the first term apart
pub sum_front : (n : ℕ) (f : ℕ → ℤ) → sum (suc n) f ≡ f 0 +ℤ sum n (λ i. f (suc i))
unfolding sum
sum_front zero f = +ℤ_idl (f 0) ∙ sym (+ℤ_idr (f 0))
sum_front (suc n) f =
    ap (λ (t : ℤ). t +ℤ f (suc n)) (sum_front n f)
    ∙ ring 3 (λ a b c. a ⊕ b ⊕ c ≐ a ⊕ (b ⊕ c)) tt (f 0) (sum n (λ i. f (suc i))) (f (suc n))

pub sum_nonnegative : (n : ℕ) (f : ℕ → ℤ) → ((i : ℕ) → i < n → pos 0 ≤ℤ f i) → pos 0 ≤ℤ sum n f
unfolding sum
sum_nonnegative zero f h = ≤ℤ_refl (pos 0)
sum_nonnegative (suc n) f h = nonnegative_sum (sum_nonnegative n f (λ i b. h i (omega arith))) (h n (omega arith))

-- where no term is below 0 and the sum is 0, each term is 0
pub sum_zero_terms : (n : ℕ) (f : ℕ → ℤ) → ((i : ℕ) → i < n → pos 0 ≤ℤ f i) → sum n f ≡ pos 0 → (i : ℕ) → i < n → f i ≡ pos 0
unfolding sum
sum_zero_terms zero f h e i b = absurd (not-suc-le-zero b)
sum_zero_terms (suc n) f h e i b =
    ⊎_elim (λ (last : i ≡ n). subst (λ (k : ℕ). f k ≡ pos 0) (sym last) (left_zero back front (+ℤ_comm (f n) (sum n f) ∙ e)))
    (λ (below : i < n). sum_zero_terms n f earlier (left_zero front back e) i below)
    (eq-or-lt_of_le (le_of_suc-le-suc b))
  where
    earlier : (k : ℕ) → k < n → pos 0 ≤ℤ f k
    earlier k c = h k (omega arith)

    front : pos 0 ≤ℤ sum n f
    front = sum_nonnegative n f earlier

    back : pos 0 ≤ℤ f n
    back = h n (omega arith)

-- the magnitude of a sum is at most that of its terms together
pub sum_magnitude : (n : ℕ) (f : ℕ → ℤ) (most : ℕ) → ((i : ℕ) → i < n → nat_abs (f i) ≤ most) → nat_abs (sum n f) ≤ n * most
unfolding sum
sum_magnitude zero f most h = zero-le
sum_magnitude (suc n) f most h =
    omega (arith, nat_abs_add (sum n f) (f n), sum_magnitude n f most (λ i b. h i (omega arith)), h n (omega arith))

-- ---- sums of products

pub dot_ext : (n : ℕ) (u v u' v' : ℕ → ℤ) → ((i : ℕ) → i < n → u i ≡ u' i) → ((i : ℕ) → i < n → v i ≡ v' i) → dot n u v ≡ dot n u' v'
unfolding dot
dot_ext n u v u' v' h k = sum_ext n (λ i. u i *ℤ v i) (λ i. u' i *ℤ v' i) (λ i b. ap₂ ◌*ℤ◌ (h i b) (k i b))

pub dot_comm : (n : ℕ) (u v : ℕ → ℤ) → dot n u v ≡ dot n v u
unfolding dot
dot_comm n u v = sum_ext n (λ i. u i *ℤ v i) (λ i. v i *ℤ u i) (λ i b. *ℤ_comm (u i) (v i))

pub dot_add : (n : ℕ) (u v w : ℕ → ℤ) → dot n u (λ i. v i +ℤ w i) ≡ dot n u v +ℤ dot n u w
unfolding dot
dot_add n u v w =
    sum_ext n (λ i. u i *ℤ (v i +ℤ w i)) (λ i. u i *ℤ v i +ℤ u i *ℤ w i) (λ i b. *ℤ-distribˡ (u i) (v i) (w i))
    ∙ sum_add n (λ i. u i *ℤ v i) (λ i. u i *ℤ w i)

pub dot_scale : (n : ℕ) (c : ℤ) (u v : ℕ → ℤ) → dot n u (λ i. c *ℤ v i) ≡ c *ℤ dot n u v
unfolding dot
dot_scale n c u v =
    sum_ext n (λ i. u i *ℤ (c *ℤ v i)) (λ i. c *ℤ (u i *ℤ v i)) (λ i b. ring 3 (λ c x y. x ⊗ (c ⊗ y) ≐ c ⊗ (x ⊗ y)) tt c (u i) (v i))
    ∙ sum_scale n c (λ i. u i *ℤ v i)

-- the sum of products with a sum of multiples
pub dot_combined : (n : ℕ) (p q : ℤ) (u v w : ℕ → ℤ) → dot n u (λ i. p *ℤ v i +ℤ q *ℤ w i) ≡ p *ℤ dot n u v +ℤ q *ℤ dot n u w
dot_combined n p q u v w = dot_add n u (λ i. p *ℤ v i) (λ i. q *ℤ w i) ∙ ap₂ ◌+ℤ◌ (dot_scale n p u v) (dot_scale n q u w)

pub dot_zero : (n : ℕ) (u v : ℕ → ℤ) → ((i : ℕ) → i < n → v i ≡ pos 0) → dot n u v ≡ pos 0
unfolding dot
dot_zero n u v h = sum_ext n (λ i. u i *ℤ v i) (λ i. pos 0) (λ i b. ap (λ (t : ℤ). u i *ℤ t) (h i b) ∙ *ℤ-zero (u i)) ∙ sum_zero n

pub squares_nonnegative : (n : ℕ) (u : ℕ → ℤ) → pos 0 ≤ℤ squares n u
unfolding dot
squares_nonnegative n u = sum_nonnegative n (λ i. u i *ℤ u i) (λ i b. square_nonnegative (u i))

pub squares_ext : (n : ℕ) (u v : ℕ → ℤ) → ((i : ℕ) → i < n → u i ≡ v i) → squares n u ≡ squares n v
squares_ext n u v same = dot_ext n u u v v same same

-- a sum of squares is 0 only where each number is 0
pub squares_zero : (n : ℕ) (u : ℕ → ℤ) → squares n u ≡ pos 0 → (i : ℕ) → i < n → u i ≡ pos 0
unfolding dot
squares_zero n u e i b = square_zero (u i) (sum_zero_terms n (λ k. u k *ℤ u k) (λ k c. square_nonnegative (u k)) e i b)

-- a number of which some positive multiple is from 0 up is so itself
factor_natural : (k : ℕ) (z : ℤ) → pos 0 ≤ℤ (pos (suc k) *ℤ z) → pos 0 ≤ℤ z
factor_natural k (pos n) h = zero-≤ℤ-pos n
factor_natural k (negsuc n) h = absurd (simp unary_clauses at h.le)

-- the square of a sum of products is at most the product of the sums of squares
module _ (n : ℕ) (u v : ℕ → ℤ) where
  -- how far v lies from its share of u, times the sum of u²
  abbrev apart : ℕ → ℤ
  apart i = squares n u *ℤ v i -ℤ dot n u v *ℤ u i

  apart_squares : squares n apart ≡ squares n u *ℤ (squares n u *ℤ squares n v -ℤ dot n u v *ℤ dot n u v)
  unfolding dot
  apart_squares =
      let a = squares n u in
      let c = dot n u v in
      sum_ext n (λ i. apart i *ℤ apart i) (λ i. a *ℤ a *ℤ (v i *ℤ v i) +ℤ c *ℤ c *ℤ (u i *ℤ u i) +ℤ neg_ℤ (a *ℤ c +ℤ a *ℤ c) *ℤ (u i *ℤ v i))
      (λ i b. ring 4 (λ a c x y. (a ⊗ y ⊖ c ⊗ x) ⊗ (a ⊗ y ⊖ c ⊗ x) ≐ a ⊗ a ⊗ (y ⊗ y) ⊕ c ⊗ c ⊗ (x ⊗ x) ⊕ ⊝ (a ⊗ c ⊕ a ⊗ c) ⊗ (x ⊗ y)) tt a c (u i) (v i))
      ∙ sum_add n (λ i. a *ℤ a *ℤ (v i *ℤ v i) +ℤ c *ℤ c *ℤ (u i *ℤ u i)) (λ i. neg_ℤ (a *ℤ c +ℤ a *ℤ c) *ℤ (u i *ℤ v i))
      ∙ ap₂ ◌+ℤ◌
      (sum_add n (λ i. a *ℤ a *ℤ (v i *ℤ v i)) (λ i. c *ℤ c *ℤ (u i *ℤ u i))
      ∙ ap₂ ◌+ℤ◌ (sum_scale n (a *ℤ a) (λ i. v i *ℤ v i)) (sum_scale n (c *ℤ c) (λ i. u i *ℤ u i)))
      (sum_scale n (neg_ℤ (a *ℤ c +ℤ a *ℤ c)) (λ i. u i *ℤ v i))
      ∙ ring 3 (λ a c b. a ⊗ a ⊗ b ⊕ c ⊗ c ⊗ a ⊕ ⊝ (a ⊗ c ⊕ a ⊗ c) ⊗ c ≐ a ⊗ (a ⊗ b ⊖ c ⊗ c)) tt a c (squares n v)

  pub products_within : pos 0 ≤ℤ (squares n u *ℤ squares n v -ℤ dot n u v *ℤ dot n u v)
  products_within = go (nat_abs (squares n u)) (natural (squares n u) (squares_nonnegative n u))
    where
      rest : ℤ
      rest = squares n u *ℤ squares n v -ℤ dot n u v *ℤ dot n u v

      go : (k : ℕ) → squares n u ≡ pos k → pos 0 ≤ℤ rest
      go zero none =
          let still : dot n u v ≡ pos 0 = dot_comm n u v ∙ dot_zero n v u (squares_zero n u none) in
          subst (λ (z : ℤ). pos 0 ≤ℤ z) (ring 1 (λ b. constant (pos 0) ≐ constant (pos 0) ⊗ b ⊖ constant (pos 0) ⊗ constant (pos 0)) tt (squares n v)
          ∙ sym (ap₂ (λ (a c : ℤ). a *ℤ squares n v -ℤ c *ℤ c) none still)) (zero-≤ℤ-pos 0)
      go (suc k) some = factor_natural k rest (subst (λ (z : ℤ). pos 0 ≤ℤ z) (apart_squares ∙ ap (λ (a : ℤ). a *ℤ rest) some) (squares_nonnegative n apart))

-- ---- tables

pub applied_ext : (m : ℕ) (a : ℕ → ℕ → ℤ) (v w : ℕ → ℤ) → ((j : ℕ) → j < m → v j ≡ w j) → (i : ℕ) → applied m a v i ≡ applied m a w i
unfolding applied
applied_ext m a v w h i = dot_ext m (a i) v (a i) w (λ j b. refl) h

pub applied_rows : (m : ℕ) (a b : ℕ → ℕ → ℤ) (w : ℕ → ℤ) (i : ℕ) → ((j : ℕ) → j < m → a i j ≡ b i j) → applied m a w i ≡ applied m b w i
unfolding applied
applied_rows m a b w i h = dot_ext m (a i) w (b i) w h (λ j c. refl)

pub applied_multiple : (m : ℕ) (c : ℤ) (a : ℕ → ℕ → ℤ) (w : ℕ → ℤ) (i : ℕ) → applied m (λ k j. c *ℤ a k j) w i ≡ c *ℤ applied m a w i
unfolding applied
applied_multiple m c a w i = dot_comm m (λ j. c *ℤ a i j) w ∙ dot_scale m c w (a i) ∙ ap (λ (t : ℤ). c *ℤ t) (dot_comm m w (a i))

pub applied_add : (m : ℕ) (a : ℕ → ℕ → ℤ) (v w : ℕ → ℤ) (i : ℕ) → applied m a (λ j. v j +ℤ w j) i ≡ applied m a v i +ℤ applied m a w i
unfolding applied
applied_add m a v w i = dot_add m (a i) v w

pub applied_scale : (m : ℕ) (a : ℕ → ℕ → ℤ) (c : ℤ) (w : ℕ → ℤ) (i : ℕ) → applied m a (λ j. c *ℤ w j) i ≡ c *ℤ applied m a w i
unfolding applied
applied_scale m a c w i = dot_scale m c (a i) w

-- products with a number outside, summed in either order
exchanged : (n m : ℕ) (u e : ℕ → ℤ) (c : ℕ → ℕ → ℤ) → dot n (λ i. dot m u (c i)) e ≡ dot m u (λ j. dot n (λ i. c i j) e)
unfolding dot
exchanged n m u e c =
    sum_ext n (λ i. dot m u (c i) *ℤ e i) (λ i. sum m (λ j. e i *ℤ (u j *ℤ c i j)))
    (λ i b. *ℤ_comm (dot m u (c i)) (e i) ∙ sym (sum_scale m (e i) (λ j. u j *ℤ c i j)))
    ∙ sum_swap n m (λ i j. e i *ℤ (u j *ℤ c i j))
    ∙ sum_ext m (λ j. sum n (λ i. e i *ℤ (u j *ℤ c i j))) (λ j. u j *ℤ dot n (λ i. c i j) e)
    (λ j b. sum_ext n (λ i. e i *ℤ (u j *ℤ c i j)) (λ i. u j *ℤ (c i j *ℤ e i))
    (λ i k. ring 3 (λ x y z. x ⊗ (y ⊗ z) ≐ y ⊗ (z ⊗ x)) tt (e i) (u j) (c i j))
    ∙ sum_scale n (u j) (λ i. c i j *ℤ e i))

-- a table of a table is applied as one after the other
pub applied_composed : (p m : ℕ) (a b : ℕ → ℕ → ℤ) (w : ℕ → ℤ) (i : ℕ) → applied p (composed m a b) w i ≡ applied m a (applied p b w) i
unfolding applied composed
applied_composed p m a b w i = exchanged p m (a i) w (transposed b)

-- the transposed table moves to the other side of a sum of products
pub moved : (n m : ℕ) (c : ℕ → ℕ → ℤ) (u e : ℕ → ℤ) → dot n (applied m (transposed c) u) e ≡ dot m u (applied n c e)
unfolding applied
moved n m c u e =
    dot_ext n (λ i. dot m (λ j. c j i) u) e (λ i. dot m u (λ j. c j i)) e (λ i b. dot_comm m (λ j. c j i) u) (λ i b. refl)
    ∙ exchanged n m u e (transposed c)

pub applied_identity : (n : ℕ) (w : ℕ → ℤ) (i : ℕ) → i < n → applied n identity w i ≡ w i
unfolding applied dot
applied_identity zero w i b = absurd (not-suc-le-zero b)
applied_identity (suc n) w zero b =
    sum_front n (λ j. identity zero j *ℤ w j)
    ∙ ap₂ ◌+ℤ◌ (unit-*ℤ (w 0)) (sum_ext n (λ j. pos 0 *ℤ w (suc j)) (λ j. pos 0) (λ j c. zero-*ℤ (w (suc j))) ∙ sum_zero n)
    ∙ +ℤ_idr (w 0)
applied_identity (suc n) w (suc i) b =
    sum_front n (λ j. identity (suc i) j *ℤ w j)
    ∙ ap₂ ◌+ℤ◌ (zero-*ℤ (w 0)) (applied_identity n (λ j. w (suc j)) i (le_of_suc-le-suc b))
    ∙ +ℤ_idl (w (suc i))
