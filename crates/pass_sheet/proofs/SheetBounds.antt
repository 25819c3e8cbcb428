-- How many values of each sort a sheet has at most. Assumes nothing.
use Rattle.std.specs.Prelude.{◌≤◌, leb}
use Rattle.vocabulary.specs.{leb→le}
use Rattle.figures.specs.{declared.Figure.Figure, Numerators.most_angles, Numerators.most_fixed, Numerators.most_sides}
use Rattle.figures.proofs.Figures.{angle_bound}
use Rattle.sheet_layout.specs.{declared.Kind.Kind, Layout.lengths_of}
use Rattle.sheet_layout.proofs.EachKind.{each}

pub angles_few : (kind : Kind) (f : Figure) → (lengths_of kind f).angles ≤ most_angles
angles_few kind f = angle_bound f

pub fixed_few : (kind : Kind) (f : Figure) → (lengths_of kind f).fixed ≤ most_fixed
fixed_few kind f = leb→le (lengths_of kind f).fixed most_fixed (each (λ k g. leb (lengths_of k g).fixed most_fixed) tt kind f)

pub log_sines_few : (kind : Kind) (f : Figure) → (lengths_of kind f).log_sines ≤ most_angles
log_sines_few kind f = leb→le (lengths_of kind f).log_sines most_angles (each (λ k g. leb (lengths_of k g).log_sines most_angles) tt kind f)

pub log_sides_few : (kind : Kind) (f : Figure) → (lengths_of kind f).log_sides ≤ most_sides
log_sides_few kind f = leb→le (lengths_of kind f).log_sides most_sides (each (λ k g. leb (lengths_of k g).log_sides most_sides) tt kind f)
