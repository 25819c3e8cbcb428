-- What holds of every figure, by one test that antt computes over the list of all figures: the data are what they should be, and each
-- figure is certified. Assumes nothing.
use Rattle.std.specs.Prelude.{◌≡◌, refl, Bool, true, false, not, ◌&&◌, ◌||◌, List, [], ◌∷◌, ℕ, zero, suc, ◌≤◌, ◌<◌, T, eqb, leb, length}
use Rattle.std.specs.Prelude.{get_or, ℤ, pos, negsuc, nat_abs}
use Rattle.vocabulary.specs.{sym, ap, subst, zero-le, arith, eqb→eq, leb→le, lit<, list-get_or_eq_default}
use Rattle.whole.specs.{Sums.sum, Sums.dot, Sums.composed, Sums.table, Lists.every, Lists.every_below}
use Rattle.whole.proofs.Computed.{and_left, and_right, every_at, every_below_lem}
use Rattle.figures.specs.{declared.Figure.Figure, Figure.Target}
use Rattle.figures.specs.declared.Figure.TheVariants.{Quadrilateral, PointInTriangle, PointInQuadrilateral, CentralTriangle, CentralQuadrilateral, CentralPentagon, CentralHexagon, CentralHeptagon, CentralOctagon}
use Rattle.figures.specs.Figure.{HalfTurn, FullTurn, FixedAngle, NoCondition}
use Rattle.figures.specs.Figure.{Condition, SineCondition, description, all_figures, denominator, angle_count, condition_count, fixed_count, members_of, target_of, pole, side, has_side, no_sine, side_count}
use Rattle.figures.specs.Numerators.{most_angles, most_conditions, most_members, most_sides}
use Rattle.figures.proofs.LeastSquares.{Certified}
use Rattle.figures.proofs.Certificate.{membership, joined, correlates, quadrilateral_correlates, point_correlates, central_polygon_correlates, row_of, difference, equal, same_tables, certifies, certifies_figure, certificate}

-- the list holds every figure, so a test that passes on the list passes on each
pub each_figure : (test : Figure → Bool) → T (every test all_figures) → (f : Figure) → T (test f)
each_figure test t Quadrilateral = every_at test all_figures t 0 Quadrilateral (lit< tt)
each_figure test t PointInTriangle = every_at test all_figures t 1 Quadrilateral (lit< tt)
each_figure test t PointInQuadrilateral = every_at test all_figures t 2 Quadrilateral (lit< tt)
each_figure test t CentralTriangle = every_at test all_figures t 3 Quadrilateral (lit< tt)
each_figure test t CentralQuadrilateral = every_at test all_figures t 4 Quadrilateral (lit< tt)
each_figure test t CentralPentagon = every_at test all_figures t 5 Quadrilateral (lit< tt)
each_figure test t CentralHexagon = every_at test all_figures t 6 Quadrilateral (lit< tt)
each_figure test t CentralHeptagon = every_at test all_figures t 7 Quadrilateral (lit< tt)
each_figure test t CentralOctagon = every_at test all_figures t 8 Quadrilateral (lit< tt)

-- ---- the certificates

all_certified : T (every certifies_figure all_figures)
unfolding certifies_figure certifies same_tables composed dot sum membership joined correlates quadrilateral_correlates point_correlates central_polygon_correlates row_of difference
all_certified = tt

pub certified : (f : Figure)
    → Certified (angle_count f) (condition_count f) (pos (denominator f)) (membership (description f)) (table (description f).rows) (table (correlates f))
unfolding certifies_figure
certified f =
    certificate (angle_count f) (condition_count f) (pos (denominator f)) (membership (description f)) (table (description f).rows) (table (correlates f))
    (each_figure certifies_figure all_certified f)

-- ---- the data are what they should be

abbrev pub is_bit : ℤ → Bool
is_bit z = equal z (pos 0) || equal z (pos 1)

abbrev pub is_sign : ℤ → Bool
is_sign z = leb (nat_abs z) 1

abbrev pub some_below : ℕ → (ℕ → Bool) → Bool
some_below n test = not (every_below n (λ i. not (test i)))

abbrev pub is_among : ℕ → ℕ → Bool
is_among count m = leb 1 m && leb m count

-- the target of a condition is given: a fixed angle is one of the figure's
abbrev pub is_given : ℕ → Target → Bool
is_given fixed HalfTurn = true
is_given fixed FullTurn = true
is_given fixed (FixedAngle j) = is_among fixed j
is_given fixed NoCondition = false

-- of no condition
abbrev pub none : Condition
none = record { angles = []; target = NoCondition }

-- a sine condition has a sign of 1, −1 or 0 for each angle, and for each of at most two sides
pub record Signed (f : Figure) (c : SineCondition) : Type 0 where
  pub sign_count : length c.signs ≡ angle_count f
  pub sign_small : (i : ℕ) → nat_abs (get_or c.signs i (pos 0)) ≤ 1
  pub side_small : (i : ℕ) → nat_abs (get_or c.sides i (pos 0)) ≤ 1
  pub side_few : length c.sides ≤ most_sides

abbrev is_signed : Figure → SineCondition → Bool
is_signed f c = eqb (length c.signs) (angle_count f) && (every is_sign c.signs && (every is_sign c.sides && leb (length c.sides) most_sides))

abbrev sound : Figure → List Bool
sound f =
    eqb (length (description f).rows) (angle_count f)
    ∷ every (λ row. eqb (length row) (condition_count f)) (description f).rows
    ∷ is_signed f (pole f)
    ∷ is_signed f (side f)
    ∷ every_below (condition_count f) (λ j. every_below (angle_count f) (λ i. is_bit (membership (description f) j i)))
    ∷ every_below (angle_count f) (λ i. some_below (condition_count f) (λ j. equal (membership (description f) j i) (pos 1)))
    ∷ every (λ (c : Condition). every (is_among (angle_count f)) c.angles) (description f).conditions
    ∷ every (λ (c : Condition). leb (length c.angles) most_members) (description f).conditions
    ∷ every (λ (c : Condition). is_given (fixed_count f) c.target) (description f).conditions
    ∷ leb 1 (denominator f)
    ∷ leb (angle_count f) most_angles
    ∷ leb (condition_count f) most_conditions
    ∷ (leb (length (description f).sines) 1 || has_side f)
    ∷ (not (has_side f) || leb 1 (side_count f))
    ∷ eqb (length (pole f).sides) 0
    ∷ []

abbrev is_sound : Figure → Bool
is_sound f = every (λ b. b) (sound f)

all_sound : T (every is_sound all_figures)
unfolding membership joined
all_sound = tt

passed : (f : Figure) (k : ℕ) → k < 15 → T (get_or (sound f) k false)
passed f k h = every_at (λ b. b) (sound f) (each_figure is_sound all_sound f) k false h

pub row_count : (f : Figure) → length (description f).rows ≡ angle_count f
row_count f = eqb→eq (length (description f).rows) (angle_count f) (passed f 0 (lit< tt))

pub column_count : (f : Figure) (i : ℕ) → i < angle_count f → length (get_or (description f).rows i []) ≡ condition_count f
column_count f i h =
    eqb→eq (length (get_or (description f).rows i [])) (condition_count f)
    (every_at (λ row. eqb (length row) (condition_count f)) (description f).rows (passed f 1 (lit< tt)) i [] (subst (λ (n : ℕ). i < n) (sym (row_count f)) h))

unit_at : (signs : List ℤ) → T (every is_sign signs) → (i : ℕ) → nat_abs (get_or signs i (pos 0)) ≤ 1
unit_at [] t i = zero-le
unit_at (z ∷ signs) t zero = leb→le (nat_abs z) 1 (and_left (is_sign z) (every is_sign signs) t)
unit_at (z ∷ signs) t (suc i) = unit_at signs (and_right (is_sign z) (every is_sign signs) t) i

signed_from : (f : Figure) (c : SineCondition) → T (is_signed f c) → Signed f c
signed_from f c t =
    let rest = and_right (eqb (length c.signs) (angle_count f)) (every is_sign c.signs && (every is_sign c.sides && leb (length c.sides) most_sides)) t in
    let sides = and_right (every is_sign c.signs) (every is_sign c.sides && leb (length c.sides) most_sides) rest in
    record {
      sign_count = eqb→eq (length c.signs) (angle_count f) (and_left (eqb (length c.signs) (angle_count f)) _ t);
      sign_small = unit_at c.signs (and_left (every is_sign c.signs) _ rest);
      side_small = unit_at c.sides (and_left (every is_sign c.sides) _ sides);
      side_few = leb→le (length c.sides) most_sides (and_right (every is_sign c.sides) (leb (length c.sides) most_sides) sides);
    }

-- both sine conditions, that of a figure which has only one included
pub pole_signed : (f : Figure) → Signed f (pole f)
pole_signed f = signed_from f (pole f) (passed f 2 (lit< tt))

pub side_signed : (f : Figure) → Signed f (side f)
side_signed f = signed_from f (side f) (passed f 3 (lit< tt))

-- an angle stands in a condition once or not at all
pub joins_once : (f : Figure) (j i : ℕ) → j < condition_count f → i < angle_count f → T (is_bit (membership (description f) j i))
joins_once f j i h k =
    every_below_lem (angle_count f) (λ l. is_bit (membership (description f) j l))
    (every_below_lem (condition_count f) (λ c. every_below (angle_count f) (λ l. is_bit (membership (description f) c l))) (passed f 4 (lit< tt)) j h) i k

-- and in some condition
pub joined_somewhere : (f : Figure) (i : ℕ) → i < angle_count f → T (some_below (condition_count f) (λ j. equal (membership (description f) j i) (pos 1)))
joined_somewhere f i h =
    every_below_lem (angle_count f) (λ l. some_below (condition_count f) (λ j. equal (membership (description f) j l) (pos 1))) (passed f 5 (lit< tt)) i h

module _ (f : Figure) (j : ℕ) (h : j < condition_count f) where
  pub members_are_angles : T (every (is_among (angle_count f)) (members_of f (suc j)))
  members_are_angles = every_at (λ (c : Condition). every (is_among (angle_count f)) c.angles) (description f).conditions (passed f 6 (lit< tt)) j none h

  pub member_count : length (members_of f (suc j)) ≤ most_members
  member_count =
      leb→le (length (members_of f (suc j))) most_members
      (every_at (λ (c : Condition). leb (length c.angles) most_members) (description f).conditions (passed f 7 (lit< tt)) j none h)

  pub target_given : T (is_given (fixed_count f) (target_of f (suc j)))
  target_given = every_at (λ (c : Condition). is_given (fixed_count f) c.target) (description f).conditions (passed f 8 (lit< tt)) j none h

pub denominator_positive : (f : Figure) → 0 < denominator f
denominator_positive f = leb→le 1 (denominator f) (passed f 9 (lit< tt))

pub angle_bound : (f : Figure) → angle_count f ≤ most_angles
angle_bound f = leb→le (angle_count f) most_angles (passed f 10 (lit< tt))

pub condition_bound : (f : Figure) → condition_count f ≤ most_conditions
condition_bound f = leb→le (condition_count f) most_conditions (passed f 11 (lit< tt))

-- no known side stands in the pole
pub pole_sides : (f : Figure) → length (pole f).sides ≡ 0
pole_sides f = eqb→eq (length (pole f).sides) 0 (passed f 14 (lit< tt))

-- a figure without a second sine condition has none that says anything
pub side_absent : (f : Figure) → has_side f ≡ false → side f ≡ no_sine f
side_absent f none = list-get_or_eq_default (description f).sines (no_sine f) (leb→le (length (description f).sines) 1 (left (passed f 12 (lit< tt))))
  where
    left : T (leb (length (description f).sines) 1 || has_side f) → T (leb (length (description f).sines) 1)
    left t = alone (leb (length (description f).sines) 1) (subst (λ (b : Bool). T (leb (length (description f).sines) 1 || b)) none t)
      where
        alone : (a : Bool) → T (a || false) → T a
        alone true t = tt
        alone false t = t

-- a figure has known sides exactly if it has that condition
module _ (f : Figure) where
  pub no_sides : has_side f ≡ false → side_count f ≡ 0
  no_sides none = ap (λ (c : SineCondition). length c.sides) (side_absent f none)

  pub side_none : side_count f ≡ 0 → has_side f ≡ false
  side_none e = go (has_side f) (passed f 13 (lit< tt))
    where
      go : (b : Bool) → T (not b || leb 1 (side_count f)) → b ≡ false
      go false t = refl
      go true t = absurd (omega (arith, e, leb→le 1 (side_count f) t))

  -- the side condition has log side 1 with + and log side 4, the second of the two, with −
  pub side_signs : has_side f ≡ true → (side f).sides ≡ pos 1 ∷ negsuc 0 ∷ []
  side_signs both = by_figure f (subst T (sym both) tt)
    where
      by_figure : (g : Figure) → T (has_side g) → (side g).sides ≡ pos 1 ∷ negsuc 0 ∷ []
      by_figure PointInQuadrilateral t = refl
      by_figure Quadrilateral t = absurd t
      by_figure PointInTriangle t = absurd t
      by_figure CentralTriangle t = absurd t
      by_figure CentralQuadrilateral t = absurd t
      by_figure CentralPentagon t = absurd t
      by_figure CentralHexagon t = absurd t
      by_figure CentralHeptagon t = absurd t
      by_figure CentralOctagon t = absurd t

  pub side_some : (side_count f ≡ 0 → ⊥) → has_side f ≡ true
  side_some some = go (has_side f) refl
    where
      go : (b : Bool) → has_side f ≡ b → b ≡ true
      go true e = refl
      go false e = absurd (some (no_sides e))
