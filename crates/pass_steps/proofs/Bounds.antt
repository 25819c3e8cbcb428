-- How large the numbers of the work can be, of every figure at once. Assumes nothing.
use Rattle.std.specs.Prelude.{Bool, List, [], ◌∷◌, ℕ, zero, suc, ◌*◌, ◌≤◌, ◌<◌, T, ltb, length, get_or, ℤ, nat_abs, ◌*ℤ◌}
use Rattle.vocabulary.specs.{sym, ap, subst, zero-le, le_trans, le_of_lt, mul-le-mul, mul-le-mul_right, dec_lt, arith, ltb→lt, lit<}
use Rattle.vocabulary.specs.{list-get_or_eq_default}
use Rattle.whole.specs.{Lists.every, Sums.dot, Sums.applied, Sums.table, Sums.vector}
use Rattle.whole.proofs.{Computed.and_left, Computed.and_right, Magnitudes.nat_abs_add, Magnitudes.nat_abs_mul, Sums.sum_magnitude}
use Rattle.figures.specs.declared.Figure.{Figure}
use Rattle.figures.specs.Figure.{Condition, description, condition_count, members_of, all_figures}
use Rattle.figures.specs.Numerators.{sum_over, condition_sum, numerator, most_conditions, most_members}
use Rattle.figures.proofs.Figures.{each_figure, none, condition_bound, member_count}

-- ---- a sum over a condition: at most eight angles

few_members : (f : Figure) (j : ℕ) → Dec (j < condition_count f) → length (members_of f (suc j)) ≤ most_members
few_members f j (yes h) = member_count f j h
few_members f j (no h) =
    subst (λ (members : List ℕ). length members ≤ most_members)
    (sym (ap (λ (c : Condition). c.angles) (list-get_or_eq_default (description f).conditions none (omega arith)))) zero-le

sum_over_magnitude : (members : List ℕ) (x : ℕ → ℤ) (most : ℕ) → ((i : ℕ) → nat_abs (x i) ≤ most) → nat_abs (sum_over members x) ≤ length members * most
unfolding sum_over
sum_over_magnitude [] x most h = zero-le
sum_over_magnitude (zero ∷ others) x most h = omega (arith, sum_over_magnitude others x most h)
sum_over_magnitude (suc i ∷ others) x most h = omega (arith, nat_abs_add (x i) (sum_over others x), sum_over_magnitude others x most h, h i)

pub condition_magnitude : (f : Figure) (x : ℕ → ℤ) (most : ℕ) → ((i : ℕ) → nat_abs (x i) ≤ most) → (j : ℕ) → nat_abs (condition_sum f x j) ≤ most_members * most
unfolding condition_sum
condition_magnitude f x most h j =
    le_trans (sum_over_magnitude (members_of f (suc j)) x most h) (mul-le-mul_right most (few_members f j (dec_lt j (condition_count f))))

-- ---- a numerator: at most nine products with coefficients below 100

unfoldable small_row : List ℤ → Bool
small_row row = every (λ c. ltb (nat_abs c) 100) row

small_at : (row : List ℤ) → T (small_row row) → (j : ℕ) → nat_abs (vector row j) < 100
unfolding small_row
small_at [] t j = lit< tt
small_at (c ∷ row) t zero = ltb→lt (nat_abs c) 100 (and_left (ltb (nat_abs c) 100) (small_row row) t)
small_at (c ∷ row) t (suc j) = small_at row (and_right (ltb (nat_abs c) 100) (small_row row) t) j

small_row_lem : (rows : List (List ℤ)) → T (every small_row rows) → (i : ℕ) → T (small_row (get_or rows i []))
unfolding small_row
small_row_lem [] t i = tt
small_row_lem (row ∷ rows) t zero = and_left (small_row row) (every small_row rows) t
small_row_lem (row ∷ rows) t (suc i) = small_row_lem rows (and_right (small_row row) (every small_row rows) t) i

all_small : T (every (λ f. every small_row (description f).rows) all_figures)
unfolding small_row
all_small = tt

pub numerator_magnitude : (f : Figure) (w : ℕ → ℤ) (most : ℕ) → ((j : ℕ) → nat_abs (w j) ≤ most) → (i : ℕ) → nat_abs (numerator f w i) ≤ most_conditions * (100 * most)
unfolding numerator applied dot
numerator_magnitude f w most h i =
    le_trans (sum_magnitude (condition_count f) (λ j. table (description f).rows i j *ℤ w j) (100 * most) term) (mul-le-mul_right (100 * most) (condition_bound f))
  where
    small : T (every small_row (description f).rows)
    small = each_figure (λ g. every small_row (description g).rows) all_small f

    term : (j : ℕ) → j < condition_count f → nat_abs (table (description f).rows i j *ℤ w j) ≤ 100 * most
    term j b = rw (nat_abs_mul (table (description f).rows i j) (w j)) (mul-le-mul (le_of_lt (small_at _ (small_row_lem (description f).rows small i) j)) (h j))
