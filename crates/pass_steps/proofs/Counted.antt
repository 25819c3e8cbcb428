-- The counts of a figure as its table gives them: what they are, and that the arrays of the longest figure can lend so many. Assumes
-- nothing.
use Rattle.std.specs.Prelude.{◌≡◌, ◌≤◌, pos, length, take, replicate}
use Rattle.vocabulary.specs.{ap, arith}
use Rattle.figures.specs.{declared.Counts.Counts, declared.Figure.Figure, Figure.angle_count, Figure.condition_count, Figure.counts_of}
use Rattle.figures.proofs.Figures.{angle_bound, condition_bound}
use Rattle.whole.proofs.Lending.{lent_length}

pub record Counted (f : Figure) (counts : Counts) : Type 0 where
  pub own_angles : counts.angles ≡ angle_count f
  pub own_conditions : counts.conditions ≡ condition_count f
  pub few_angles : counts.angles ≤ 24
  pub few_conditions : counts.conditions ≤ 9
  pub lent_angles : counts.angles ≡ length (take counts.angles (replicate 24 (pos 0)))
  pub lent_conditions : counts.conditions ≡ length (take counts.conditions (replicate 9 (pos 0)))

module _ (f : Figure) (counts : Counts) (is : counts ≡ counts_of f) where
  angles_are : counts.angles ≡ angle_count f
  angles_are = ap (λ (k : Counts). k.angles) is

  conditions_are : counts.conditions ≡ condition_count f
  conditions_are = ap (λ (k : Counts). k.conditions) is

  angles_few : counts.angles ≤ 24
  angles_few = omega (arith, angles_are, angle_bound f)

  conditions_few : counts.conditions ≤ 9
  conditions_few = omega (arith, conditions_are, condition_bound f)

  pub counted : Counted f counts
  counted = record {
    own_angles = angles_are;
    own_conditions = conditions_are;
    few_angles = angles_few;
    few_conditions = conditions_few;
    lent_angles = lent_length counts.angles (replicate 24 (pos 0)) angles_few;
    lent_conditions = lent_length counts.conditions (replicate 9 (pos 0)) conditions_few;
  }
