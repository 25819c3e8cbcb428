-- The sums of both sine conditions are those of the definitions: of a figure that has only the pole, and of one with known sides. Assumes
-- nothing.
use Rattle.std.specs.Prelude.{Bool, true, false, cond, not, eqb, refl, ◌≡◌, List, [], ◌∷◌, ℕ, ◌*◌, ◌^◌, ◌≤◌, ◌<◌, ℤ, pos, negsuc, nat_abs, ◌+ℤ◌, ◌-ℤ◌}
use Rattle.std.specs.Prelude.{length}
use Rattle.vocabulary.specs.{sym, ap, ◌∙◌, arith}
use Rattle.whole.specs.{Lists.listed, Sums.sum, Sums.dot, Sums.squares, Sums.vector}
use Rattle.whole.proofs.{Magnitudes.nat_abs_add, Magnitudes.nat_abs_sub, Ring.ring, Ring.◌≐◌, Ring.◌⊕◌, Ring.◌⊖◌, Ring.◌⊗◌, Ring.constant}
use Rattle.whole.proofs.Sums.{dot_ext}
use Rattle.refusals.specs.Ranges.{most_log_sine}
use Rattle.figures.specs.{declared.Figure.Figure, Figure.angle_count, Figure.pole, Figure.side, Figure.has_side, Figure.side_count}
use Rattle.figures.specs.Numerators.{most_angles}
use Rattle.figures.proofs.Figures.{side_signs}
use Rattle.pass_rules.specs.Pass.{given}
use Rattle.pass_rules.specs.SecondPass.{SineEntries, reduced_in, misclosure_in, difference_squares_in, sine_misclosure, side_misclosure, sum_of_squares, side_squares, shared_products, reduced_of, side_reduced_of}
use Rattle.pass_rules.proofs.SideCounts.{sides_tell}
use Rattle.pass_rules.proofs.SineSums.{pole_misclosure, no_misclosure, no_squares}
use Rattle.pass_steps.specs.Premises.{LogSines}
use Rattle.pass_steps.proofs.StepLaws.{listed_at}
use Rattle.pass_second.specs.Sines.{alone_of, together_of, with_sides, pair_from, sums_from, sums_of}

-- how many sides are known tells whether there is a side condition
pub told_side : (f : Figure) (n : ℕ) (t : Bool) → n ≡ side_count f → t ≡ eqb n 0 → has_side f ≡ not t
told_side f n t same is = go (has_side f) t (is ∙ ap (λ (k : ℕ). eqb k 0) same ∙ sides_tell f)
  where
    go : (h t : Bool) → t ≡ cond h false true → h ≡ not t
    go true t e = sym (ap not e)
    go false t e = sym (ap not e)

pub none_left : {A : Type 0} (xs : List A) → length xs ≡ 0 → xs ≡ []
none_left [] e = refl
none_left (x ∷ xs) e = absurd (omega (arith, e))

module _ (f : Figure) (e : SineEntries) where
  abbrev pole_part : ℤ
  pole_part = dot (angle_count f) (vector (pole f).signs) (given e.log_sines)

  abbrev side_part : ℤ
  side_part = dot (angle_count f) (vector (side f).signs) (given e.log_sines)

  -- ---- without known sides

  module _ (none : has_side f ≡ false) where
    pub alone_are : alone_of (record { misclosure = pole_part; squares = squares (angle_count f) (reduced_in f (pole f) e); difference_squares = difference_squares_in f (pole f) e }) ≡ sums_of f e
    unfolding sum_of_squares
    alone_are =
        λ k. sums_from (pair_from (sum_of_squares f e) (cond (sym none k) (shared_products f e) (pos 0)) (cond (sym none k) (side_squares f e) (pos 0))
        (sym (pole_misclosure f e) k) (sym (no_misclosure f e none) k)) (difference_squares_in f (pole f) e) (sym (no_squares f e none) k)

    pub none_reduced : side_reduced_of f e ≡ []
    unfolding listed
    none_reduced = ap (λ (b : Bool). listed (cond b (angle_count f) 0) (reduced_in f (side f) e)) none

  -- ---- with them

  known : dot 2 (vector (pos 1 ∷ negsuc 0 ∷ [])) (given e.log_sides) ≡ given e.log_sides 0 -ℤ given e.log_sides 1
  unfolding dot sum
  known = ring 2 (λ x y. constant (pos 0) ⊕ constant (pos 1) ⊗ x ⊕ constant (negsuc 0) ⊗ y ≐ x ⊖ y) tt (given e.log_sides 0) (given e.log_sides 1)

  module _ (both : has_side f ≡ true) where
    pub two_sides : side_count f ≡ 2
    two_sides = ap length (side_signs f both)

    pub both_misclosure : side_misclosure f e ≡ with_sides side_part e.log_sides
    unfolding misclosure_in
    both_misclosure = ap (λ (l : List ℤ). side_part +ℤ dot (length l) (vector l) (given e.log_sides)) (side_signs f both) ∙ ap (λ (z : ℤ). side_part +ℤ z) known

    pub both_reduced : side_reduced_of f e ≡ listed (angle_count f) (reduced_in f (side f) e)
    both_reduced = ap (λ (b : Bool). listed (cond b (angle_count f) 0) (reduced_in f (side f) e)) both

    -- [AB] from the lists of A and B
    pub shared_are : dot (angle_count f) (vector (reduced_of f e)) (vector (listed (angle_count f) (reduced_in f (side f) e))) ≡ shared_products f e
    unfolding shared_products
    shared_are =
        dot_ext (angle_count f) _ _ (reduced_in f (pole f) e) (reduced_in f (side f) e) (λ i h. listed_at (angle_count f) (reduced_in f (pole f) e) i h)
        (λ i h. listed_at (angle_count f) (reduced_in f (side f) e) i h)

    pub together_are : {shared sideMisclosed : ℤ} → shared ≡ shared_products f e → sideMisclosed ≡ side_misclosure f e
        → together_of (record { misclosure = pole_part; squares = squares (angle_count f) (reduced_in f (pole f) e); difference_squares = difference_squares_in f (pole f) e })
        (record { misclosure = side_part; squares = squares (angle_count f) (reduced_in f (side f) e); difference_squares = difference_squares_in f (side f) e }) shared sideMisclosed
        ≡ sums_of f e
    unfolding sum_of_squares side_squares
    together_are ab wb =
        (λ k. sums_from (pair_from (sum_of_squares f e) (ab k) (side_squares f e) (sym (pole_misclosure f e) k) (wb k)) (difference_squares_in f (pole f) e) (difference_squares_in f (side f) e))
        ∙ λ k. sums_from (pair_from (sum_of_squares f e) (cond (sym both k) (shared_products f e) (pos 0)) (cond (sym both k) (side_squares f e) (pos 0))
        (sine_misclosure f e) (side_misclosure f e)) (difference_squares_in f (pole f) e) (difference_squares_in f (side f) e)

-- the side condition's W is small where its angles' part and its sides are
pub sides_magnitude : (ofAngles : ℤ) (log_sides : List ℕ) → nat_abs ofAngles ≤ most_angles * most_log_sine → LogSines log_sides → nat_abs (with_sides ofAngles log_sides) < 2 ^ 32
sides_magnitude ofAngles log_sides small most =
    omega (arith, nat_abs_add ofAngles (given log_sides 0 -ℤ given log_sides 1), nat_abs_sub (given log_sides 0) (given log_sides 1), most 0, most 1, small)
