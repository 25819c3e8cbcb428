-- How many reduced coefficients of the side condition a figure has, by how many sides of it are known. Assumes nothing.
use Rattle.std.specs.Prelude.{Bool, true, false, cond, ◌≡◌, refl, T, eqb}
use Rattle.vocabulary.specs.{sym, ap, ◌∙◌, subst, eq-eqb, ne_eqb}
use Rattle.figures.specs.{declared.Figure.Figure, Figure.angle_count, Figure.has_side, Figure.side_count}
use Rattle.figures.proofs.Figures.{no_sides, side_none}
use Rattle.pass_rules.specs.SecondPass.{side_reduced_count}

module _ (f : Figure) where
  -- whether a figure has a side condition, as the code asks it
  pub sides_tell : eqb (side_count f) 0 ≡ cond (has_side f) false true
  sides_tell = go (has_side f) refl
    where
      go : (b : Bool) → has_side f ≡ b → eqb (side_count f) 0 ≡ cond b false true
      go false none = eq-eqb (side_count f) 0 (no_sides f none)
      go true some = ne_eqb (side_count f) 0 (λ e. subst T (sym some ∙ side_none f e) tt)

  pub side_reduced_count_lem : cond (eqb (side_count f) 0) 0 (angle_count f) ≡ side_reduced_count f
  side_reduced_count_lem = ap (λ (b : Bool). cond b 0 (angle_count f)) sides_tell ∙ turned (has_side f)
    where
      turned : (b : Bool) → cond (cond b false true) 0 (angle_count f) ≡ cond b (angle_count f) 0
      turned true = refl
      turned false = refl
