-- Where angles start: the number of the angle at whose end one starts, by its index, for each family of figures; and sums along the way
-- to it. One computed test each. Assumes nothing.
use Rattle.std.specs.Prelude.{ℕ, zero, suc, ◌+◌, ◌-◌, ◌*◌, ◌%◌, ◌≤◌, ◌<◌, Bool, true, false, cond, not, ◌||◌, List, ◌∷◌, ◌≡◌, refl, T, eqb, leb}
use Rattle.std.specs.Prelude.{ℤ, pos, nat_abs, ◌+ℤ◌, length, get_or}
use Rattle.vocabulary.specs.{zero-le, sym, ap, ap₂, subst, unary_clauses, arith, eqb→eq, leb→le}
use Rattle.whole.specs.Lists.{every, every_below}
use Rattle.whole.proofs.{Computed.every_below_lem, Magnitudes.nat_abs_add}
use Rattle.figures.specs.{declared.Figure.Figure, declared.Figure.TheVariants.Quadrilateral, Figure.all_figures, Figure.angle_count}
use Rattle.figures.specs.Numerators.{sum_over}
use Rattle.refusals.specs.Questions.{same_numbers}
use Rattle.refusals.proofs.NumberLists.{same_lists}
use Rattle.figures.proofs.{Families.is_point_inside, Families.is_polygon, Figures.each_figure}
use Rattle.closing.specs.Choice.{starts_at, chain, start_of, end_of}

-- ---- by the index, as the code finds it

abbrev pub at_corners : ℕ → ℕ
at_corners i = cond (eqb (i % 3) 0) (i + 3) (cond (eqb (i % 3) 1) i 0)

abbrev pub round_point : ℕ → ℕ
round_point i = cond (eqb (i % 3) 0) (cond (eqb i 0) 0 (i - 2)) i

abbrev agrees : (ℕ → ℕ) → Figure → Bool
agrees rule f = every_below (angle_count f) (λ i. eqb (get_or (starts_at f) i 0) (rule i))

abbrev within : Figure → Bool
within f = every_below (angle_count f) (λ i. leb (get_or (starts_at f) i 0) (angle_count f))

-- each way ends within as many steps as there are angles
abbrev ends : Figure → Bool
ends f =
    every_below (angle_count f) (λ i. same_numbers (chain (starts_at f) (angle_count f) (suc i))
    (suc i ∷ chain (starts_at f) (angle_count f) (get_or (starts_at f) i 0)))

all_corners : T (every (λ f. not (is_point_inside f) || agrees at_corners f) all_figures)
all_corners = tt

all_round : T (every (λ f. not (is_polygon f) || agrees round_point f) all_figures)
all_round = tt

all_within : T (every within all_figures)
all_within = tt

all_end : T (every ends all_figures)
all_end = tt

true_of : (b : Bool) → T b → b ≡ true
true_of true t = refl
true_of false t = absurd t

then : (a b : Bool) → T (not a || b) → T a → T b
then true b t h = t
then false b t h = absurd h

rule_at : (rule : ℕ → ℕ) (f : Figure) → T (agrees rule f) → (i : ℕ) → i < angle_count f → get_or (starts_at f) i 0 ≡ rule i
rule_at rule f t i h = eqb→eq (get_or (starts_at f) i 0) (rule i) (every_below_lem (angle_count f) (λ k. eqb (get_or (starts_at f) k 0) (rule k)) t i h)

pub after_another : (f : Figure) → f ≡ Quadrilateral → (i : ℕ) → i < angle_count f → get_or (starts_at f) i 0 ≡ i
after_another f e = subst (λ (g : Figure). (i : ℕ) → i < angle_count g → get_or (starts_at g) i 0 ≡ i) (sym e) (rule_at (λ i. i) Quadrilateral tt)

pub from_corners : (f : Figure) → T (is_point_inside f) → (i : ℕ) → i < angle_count f → get_or (starts_at f) i 0 ≡ at_corners i
from_corners f p =
    rule_at at_corners f (then (is_point_inside f) (agrees at_corners f) (each_figure (λ g. not (is_point_inside g) || agrees at_corners g) all_corners f) p)

pub round_point_lem : (f : Figure) → T (is_polygon f) → (i : ℕ) → i < angle_count f → get_or (starts_at f) i 0 ≡ round_point i
round_point_lem f p =
    rule_at round_point f (then (is_polygon f) (agrees round_point f) (each_figure (λ g. not (is_polygon g) || agrees round_point g) all_round f) p)

-- an angle of the figure, or the first direction
pub start_within : (f : Figure) (i : ℕ) → i < angle_count f → get_or (starts_at f) i 0 ≤ angle_count f
start_within f i h =
    leb→le (get_or (starts_at f) i 0) (angle_count f)
    (every_below_lem (angle_count f) (λ k. leb (get_or (starts_at f) k 0) (angle_count f)) (each_figure within all_within f) i h)

-- ---- sums along the way

module _ (f : Figure) where
  abbrev way : (steps angle : ℕ) → List ℕ
  way steps angle = chain (starts_at f) steps angle

  -- the whole way to the end of an angle
  abbrev pub laid : (angle : ℕ) → List ℕ
  laid angle = way (angle_count f) angle

  -- an angle, and the way to where it starts
  pub one_step : (angle : ℕ) → 0 < angle → angle ≤ angle_count f → laid angle ≡ angle ∷ laid (get_or (starts_at f) (angle - 1) 0)
  one_step zero some h = absurd (omega arith)
  one_step (suc i) some h =
      simp unary_clauses (same_lists _ _ (true_of _ (every_below_lem (angle_count f) (λ k. same_numbers (way (angle_count f) (suc k)) (suc k ∷ way (angle_count f) (get_or (starts_at f) k 0)))
      (each_figure ends all_end f) i h)))

  pub sum_step : (x : ℕ → ℤ) (angle : ℕ) → 0 < angle → angle ≤ angle_count f
      → sum_over (laid angle) x ≡ x (angle - 1) +ℤ sum_over (laid (get_or (starts_at f) (angle - 1) 0)) x
  unfolding sum_over
  sum_step x zero some h = absurd (omega arith)
  sum_step x (suc i) some h = simp unary_clauses (simp unary_clauses at (ap (λ (l : List ℕ). sum_over l x) (one_step (suc i) some h)))

  pub length_step : (angle : ℕ) → 0 < angle → angle ≤ angle_count f → length (laid angle) ≡ suc (length (laid (get_or (starts_at f) (angle - 1) 0)))
  length_step angle some h = ap length (one_step angle some h)

  -- at its end
  pub sum_end : (x : ℕ → ℤ) → sum_over (laid 0) x ≡ pos 0
  unfolding sum_over
  sum_end x = go (angle_count f)
    where
      go : (steps : ℕ) → sum_over (way steps 0) x ≡ pos 0
      go zero = refl
      go (suc steps) = refl

  way_few : (steps angle : ℕ) → length (way steps angle) ≤ steps
  way_few zero angle = zero-le
  way_few (suc steps) zero = zero-le
  way_few (suc steps) (suc i) = omega (arith, way_few steps (get_or (starts_at f) i 0))

  pub laid_few : (angle : ℕ) → length (laid angle) ≤ angle_count f
  laid_few angle = way_few (angle_count f) angle

  -- it reads the figure's own angles alone
  way_agrees : (x y : ℕ → ℤ) → ((i : ℕ) → i < angle_count f → x i ≡ y i) → (steps angle : ℕ) → angle ≤ angle_count f
      → sum_over (way steps angle) x ≡ sum_over (way steps angle) y
  unfolding sum_over
  way_agrees x y same zero angle h = refl
  way_agrees x y same (suc steps) zero h = refl
  way_agrees x y same (suc steps) (suc i) h = ap₂ ◌+ℤ◌ (same i h) (way_agrees x y same steps (get_or (starts_at f) i 0) (start_within f i h))

  way_small : (x : ℕ → ℤ) (most : ℕ) → ((i : ℕ) → nat_abs (x i) ≤ most) → (steps angle : ℕ) → nat_abs (sum_over (way steps angle) x) ≤ steps * most
  unfolding sum_over
  way_small x most small zero angle = zero-le
  way_small x most small (suc steps) zero = zero-le
  way_small x most small (suc steps) (suc i) =
      omega (arith, nat_abs_add (x i) (sum_over (way steps (get_or (starts_at f) i 0)) x), small i, way_small x most small steps (get_or (starts_at f) i 0))

  pub start_agrees : (x y : ℕ → ℤ) → ((i : ℕ) → i < angle_count f → x i ≡ y i) → (i : ℕ) → i < angle_count f → start_of f x i ≡ start_of f y i
  start_agrees x y same i h = way_agrees x y same (angle_count f) (get_or (starts_at f) i 0) (start_within f i h)

  pub end_is : (x : ℕ → ℤ) (i : ℕ) → end_of f x i ≡ x i +ℤ start_of f x i
  unfolding sum_over
  end_is x i = refl

  pub start_small : (x : ℕ → ℤ) (most : ℕ) → ((i : ℕ) → nat_abs (x i) ≤ most) → (i : ℕ) → nat_abs (start_of f x i) ≤ angle_count f * most
  start_small x most small i = way_small x most small (angle_count f) (get_or (starts_at f) i 0)
