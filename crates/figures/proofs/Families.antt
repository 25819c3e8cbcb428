-- The conditions of each family of figures, by the indices of their angles: what the code adds for each. Each fact by one test over all
-- figures. Assumes nothing.
use Rattle.std.specs.Prelude.{◌≡◌, refl, Bool, true, false, cond, not, ◌&&◌, ◌||◌, List, [], ◌∷◌, ℕ, zero, suc, ◌+◌, ◌-◌, ◌*◌, ◌<◌, T, eqb}
use Rattle.std.specs.Prelude.{length, get_or, ℤ, ◌+ℤ◌}
use Rattle.vocabulary.specs.{sym, ap, ap₂, ◌∙◌, eqb→eq, lit<, +ℤ_idr}
use Rattle.refusals.specs.Table.{fixed_sum}
use Rattle.whole.specs.{Lists.every, Lists.every_below, Lists.listed, Sums.sum}
use Rattle.whole.proofs.{Computed.and_left, Computed.and_right, Computed.every_at, Computed.every_below_lem, Sums.sum_front}
use Rattle.figures.specs.{declared.Figure.Figure, declared.Figure.TheVariants.Quadrilateral, Figure.Target}
use Rattle.figures.specs.Figure.{HalfTurn, FullTurn, FixedAngle, NoCondition}
use Rattle.figures.specs.Figure.{description, all_figures, angle_count, condition_count, fixed_count, members_of, target_of, horizon}
use Rattle.figures.specs.Numerators.{sum_over, condition_sum, horizon_sum}
use Rattle.figures.proofs.Figures.{each_figure}

-- ---- the angles of a condition are those listed

abbrev same_numbers : List ℕ → List ℕ → Bool
same_numbers [] [] = true
same_numbers [] (n ∷ ns) = false
same_numbers (m ∷ ms) [] = false
same_numbers (m ∷ ms) (n ∷ ns) = eqb m n && same_numbers ms ns

same_numbers_lem : (ms ns : List ℕ) → T (same_numbers ms ns) → ms ≡ ns
same_numbers_lem [] [] t = refl
same_numbers_lem [] (n ∷ ns) t = absurd t
same_numbers_lem (m ∷ ms) [] t = absurd t
same_numbers_lem (m ∷ ms) (n ∷ ns) t =
    ap₂ ◌∷◌ (eqb→eq m n (and_left (eqb m n) (same_numbers ms ns) t)) (same_numbers_lem ms ns (and_right (eqb m n) (same_numbers ms ns) t))

-- of condition j, by the indices of its angles
abbrev joins : Figure → (j : ℕ) → (count : ℕ) → (ℕ → ℕ) → Bool
joins f j count index = same_numbers (members_of f (suc j)) (listed count (λ k. suc (index k)))

sum_listed : (count : ℕ) (index : ℕ → ℕ) (x : ℕ → ℤ) → sum_over (listed count (λ k. suc (index k))) x ≡ sum count (λ k. x (index k))
unfolding sum_over listed sum
sum_listed zero index x = refl
sum_listed (suc count) index x =
    ap (λ (t : ℤ). x (index 0) +ℤ t) (sum_listed count (λ k. index (suc k)) x) ∙ sym (sum_front count (λ k. x (index k)))

joined_sum : (f : Figure) (j count : ℕ) (index : ℕ → ℕ) (x : ℕ → ℤ) → T (joins f j count index) → condition_sum f x j ≡ sum count (λ k. x (index k))
unfolding condition_sum
joined_sum f j count index x t =
    ap (λ (members : List ℕ). sum_over members x) (same_numbers_lem (members_of f (suc j)) (listed count (λ k. suc (index k))) t) ∙ sum_listed count index x

-- of the angles at the inner point
abbrev round_inner : Figure → Bool
round_inner f = same_numbers (horizon (description f).n).angles (listed (description f).n (λ k. suc (0 + 3 * k)))

inner_sum : (f : Figure) (x : ℕ → ℤ) → T (round_inner f) → horizon_sum f x ≡ sum (description f).n (λ k. x (0 + 3 * k))
inner_sum f x t =
    ap (λ (members : List ℕ). sum_over members x) (same_numbers_lem (horizon (description f).n).angles (listed (description f).n (λ k. suc (0 + 3 * k))) t)
    ∙ sum_listed (description f).n (λ k. 0 + 3 * k) x

-- of two angles
abbrev joins_two : Figure → (j first second : ℕ) → Bool
joins_two f j first second = same_numbers (members_of f (suc j)) (suc first ∷ suc second ∷ [])

two_sum : (f : Figure) (j first second : ℕ) (x : ℕ → ℤ) → T (joins_two f j first second) → condition_sum f x j ≡ x first +ℤ x second
unfolding condition_sum sum_over
two_sum f j first second x t =
    ap (λ (members : List ℕ). sum_over members x) (same_numbers_lem (members_of f (suc j)) (suc first ∷ suc second ∷ []) t)
    ∙ ap (λ (s : ℤ). x first +ℤ s) (+ℤ_idr (x second))

-- ---- code 1

quadrilateral_joins : T (every_below 3 (λ j. joins Quadrilateral j 4 (λ k. 2 * j + 1 * k)))
unfolding listed
quadrilateral_joins = tt

pub quadrilateral_sum : (x : ℕ → ℤ) (j : ℕ) → j < 3 → condition_sum Quadrilateral x j ≡ sum 4 (λ k. x (2 * j + 1 * k))
quadrilateral_sum x j h =
    joined_sum Quadrilateral j 4 (λ k. 2 * j + 1 * k) x (every_below_lem 3 (λ i. joins Quadrilateral i 4 (λ k. 2 * i + 1 * k)) quadrilateral_joins j h)

-- ---- codes 2 and 3: the triangles first

triangles_join : T (every (λ f. every_below (description f).n (λ j. joins f j 3 (λ k. 3 * j + 1 * k))) all_figures)
unfolding listed
triangles_join = tt

pub triangle_sum : (f : Figure) (x : ℕ → ℤ) (j : ℕ) → j < (description f).n → condition_sum f x j ≡ sum 3 (λ k. x (3 * j + 1 * k))
triangle_sum f x j h =
    joined_sum f j 3 (λ k. 3 * j + 1 * k) x
    (every_below_lem (description f).n (λ i. joins f i 3 (λ k. 3 * i + 1 * k)) (each_figure (λ g. every_below (description g).n (λ i. joins g i 3 (λ k. 3 * i + 1 * k))) triangles_join f) j h)

-- ---- what the angles of a condition should sum to, told apart by a number

abbrev target_number : Target → ℕ
target_number HalfTurn = 0
target_number FullTurn = 1
target_number NoCondition = 2
target_number (FixedAngle j) = suc (suc (suc j))

abbrev target_from : ℕ → Target
target_from zero = HalfTurn
target_from (suc zero) = FullTurn
target_from (suc (suc zero)) = NoCondition
target_from (suc (suc (suc j))) = FixedAngle j

from_number : (t : Target) → target_from (target_number t) ≡ t
from_number HalfTurn = refl
from_number FullTurn = refl
from_number NoCondition = refl
from_number (FixedAngle j) = refl

abbrev same_target : Target → Target → Bool
same_target s t = eqb (target_number s) (target_number t)

same_target_lem : (s t : Target) → T (same_target s t) → s ≡ t
same_target_lem s t same = sym (from_number s) ∙ ap target_from (eqb→eq (target_number s) (target_number t) same) ∙ from_number t

quadrilateral_half_turns : T (every_below 3 (λ j. same_target (target_of Quadrilateral (suc j)) HalfTurn))
quadrilateral_half_turns = tt

pub quadrilateral_target : (j : ℕ) → j < 3 → target_of Quadrilateral (suc j) ≡ HalfTurn
quadrilateral_target j h = same_target_lem _ _ (every_below_lem 3 (λ i. same_target (target_of Quadrilateral (suc i)) HalfTurn) quadrilateral_half_turns j h)

abbrev half_turns : Figure → Bool
half_turns f = every_below (description f).n (λ j. same_target (target_of f (suc j)) HalfTurn)

all_half_turns : T (every half_turns all_figures)
all_half_turns = tt

pub triangle_target : (f : Figure) (j : ℕ) → j < (description f).n → target_of f (suc j) ≡ HalfTurn
triangle_target f j h =
    same_target_lem _ _ (every_below_lem (description f).n (λ i. same_target (target_of f (suc i)) HalfTurn) (each_figure half_turns all_half_turns f) j h)

-- ---- tests that the figures of one code pass

abbrev if_of_code : (code : ℕ) → (Figure → List Bool) → Figure → Bool
if_of_code code tests f = not (eqb (description f).code code) || every (λ b. b) (tests f)

passed : (code : ℕ) (tests : Figure → List Bool) → T (every (if_of_code code tests) all_figures)
    → (f : Figure) → T (eqb (description f).code code) → (k : ℕ) → k < length (tests f) → T (get_or (tests f) k false)
passed code tests all f its k h =
    every_at (λ b. b) (tests f) (if_so (eqb (description f).code code) (every (λ b. b) (tests f)) (each_figure (if_of_code code tests) all f) its) k false h
  where
    if_so : (a b : Bool) → T (not a || b) → T a → T b
    if_so true b t u = t
    if_so false b t u = absurd u

-- ---- code 2: after the triangles the corners

abbrev pub is_point_inside : Figure → Bool
is_point_inside f = eqb (description f).code 2

-- the last angle of the triangle before, at the corner whose own triangle begins at index `first` of so many angles
abbrev pub last_before : (angles first : ℕ) → ℕ
last_before angles first = cond (eqb first 0) angles first - 1

-- what a point inside n corners has; at each corner that angle and the second of its own triangle
pub record PointInside (f : Figure) : Type 0 where
  pub conditions : condition_count f ≡ 2 * (description f).n
  pub angles : angle_count f ≡ 3 * (description f).n
  pub fixed : fixed_count f ≡ (description f).n
  pub corner_target : (i : ℕ) → i < (description f).n → target_of f (suc ((description f).n + i)) ≡ FixedAngle (suc i)
  pub corner_sum : (x : ℕ → ℤ) (i : ℕ) → i < (description f).n
      → condition_sum f x ((description f).n + i) ≡ x (last_before (3 * (description f).n) (3 * i)) +ℤ x (3 * i + 1)
  pub inner_angles : (x : ℕ → ℤ) → horizon_sum f x ≡ sum (description f).n (λ k. x (0 + 3 * k))
  -- the triangles have a full turn more than the fixed angles sum to
  pub turns : fixed_sum (fixed_count f) + 12_960_000 ≡ (description f).n * 6_480_000

abbrev pointed : Figure → List Bool
pointed f =
    eqb (condition_count f) (2 * (description f).n)
    ∷ eqb (angle_count f) (3 * (description f).n)
    ∷ eqb (fixed_count f) (description f).n
    ∷ every_below (description f).n (λ i. same_target (target_of f (suc ((description f).n + i))) (FixedAngle (suc i)))
    ∷ every_below (description f).n (λ i. joins_two f ((description f).n + i) (last_before (3 * (description f).n) (3 * i)) (3 * i + 1))
    ∷ round_inner f
    ∷ eqb (fixed_sum (fixed_count f) + 12_960_000) ((description f).n * 6_480_000)
    ∷ []

all_pointed : T (every (if_of_code 2 pointed) all_figures)
unfolding listed
all_pointed = tt

pub point_inside_lem : (f : Figure) → T (is_point_inside f) → PointInside f
point_inside_lem f p = record {
  conditions = eqb→eq (condition_count f) (2 * (description f).n) (test 0 (lit< tt));
  angles = eqb→eq (angle_count f) (3 * (description f).n) (test 1 (lit< tt));
  fixed = eqb→eq (fixed_count f) (description f).n (test 2 (lit< tt));
  corner_target = λ i h.
      same_target_lem _ _
      (every_below_lem (description f).n (λ k. same_target (target_of f (suc ((description f).n + k))) (FixedAngle (suc k))) (test 3 (lit< tt)) i h);
  corner_sum = λ x i h.
      two_sum f ((description f).n + i) (last_before (3 * (description f).n) (3 * i)) (3 * i + 1) x
      (every_below_lem (description f).n (λ k. joins_two f ((description f).n + k) (last_before (3 * (description f).n) (3 * k)) (3 * k + 1)) (test 4 (lit< tt)) i h);
  inner_angles = λ x. inner_sum f x (test 5 (lit< tt));
  turns = eqb→eq (fixed_sum (fixed_count f) + 12_960_000) ((description f).n * 6_480_000) (test 6 (lit< tt));
}
  where
    test : (k : ℕ) → k < 7 → T (get_or (pointed f) k false)
    test = passed 2 pointed all_pointed f p

-- ---- code 3: after the triangles the angles at the inner point

abbrev pub is_polygon : Figure → Bool
is_polygon f = eqb (description f).code 3

-- what a polygon of n triangles has
pub record Polygon (f : Figure) : Type 0 where
  pub conditions : condition_count f ≡ suc (description f).n
  pub angles : angle_count f ≡ 3 * (description f).n
  pub horizon_target : target_of f (suc (description f).n) ≡ FullTurn
  pub horizon_sum_lem : (x : ℕ → ℤ) → condition_sum f x (description f).n ≡ sum (description f).n (λ k. x (0 + 3 * k))

abbrev polygonal : Figure → List Bool
polygonal f =
    eqb (condition_count f) (suc (description f).n)
    ∷ eqb (angle_count f) (3 * (description f).n)
    ∷ same_target (target_of f (suc (description f).n)) FullTurn
    ∷ joins f (description f).n (description f).n (λ k. 0 + 3 * k)
    ∷ []

all_polygonal : T (every (if_of_code 3 polygonal) all_figures)
unfolding listed
all_polygonal = tt

pub polygon : (f : Figure) → T (is_polygon f) → Polygon f
polygon f p = record {
  conditions = eqb→eq (condition_count f) (suc (description f).n) (test 0 (lit< tt));
  angles = eqb→eq (angle_count f) (3 * (description f).n) (test 1 (lit< tt));
  horizon_target = same_target_lem _ _ (test 2 (lit< tt));
  horizon_sum_lem = λ x. joined_sum f (description f).n (description f).n (λ k. 0 + 3 * k) x (test 3 (lit< tt));
}
  where
    test : (k : ℕ) → k < 4 → T (get_or (polygonal f) k false)
    test = passed 3 polygonal all_polygonal f p
