-- A table brought to one size and filled with 0 gives the numerators of the natural table, of every figure at once. Assumes nothing.
use Rattle.std.specs.Prelude.{◌≡◌, List, [], map, ℕ, ◌<◌, get_or, ℤ, pos}
use Rattle.vocabulary.specs.{sym, ap, ◌∙◌, subst, lt_of_lt_of_le, list-get_or_map}
use Rattle.whole.specs.{Lists.listed, Lists.padded, Sums.applied, Sums.table, Sums.vector}
use Rattle.whole.proofs.{Lists.length_padded, Lists.get_or_padded, Lists.get_d_any, Lists.listed_ext, Sums.applied_rows}
use Rattle.figures.specs.{declared.Figure.Figure, Figure.description, Figure.angle_count, Figure.condition_count}
use Rattle.figures.specs.Numerators.{numerator, most_angles, most_conditions, padded_rows}
use Rattle.figures.proofs.Figures.{angle_bound, condition_bound}

-- the padded table has the natural table's coefficients
padded_entry : (f : Figure) (i j : ℕ) → i < most_angles → j < most_conditions → table (padded_rows f) i j ≡ table (description f).rows i j
padded_entry f i j h k =
    let filling : List ℤ = padded most_conditions (pos 0) [] in
    let natural : List (List ℤ) = (description f).rows in
    ap (λ (row : List ℤ). vector row j)
    (get_d_any (padded_rows f) i [] filling (subst (λ (n : ℕ). i < n) (sym (length_padded most_angles filling (map (padded most_conditions (pos 0)) natural))) h)
    ∙ get_or_padded most_angles filling (map (padded most_conditions (pos 0)) natural) i h
    ∙ list-get_or_map (padded most_conditions (pos 0)) natural i [])
    ∙ get_or_padded most_conditions (pos 0) (get_or natural i []) j k

padded_numerator : (f : Figure) (w : ℕ → ℤ) (i : ℕ) → i < angle_count f → applied (condition_count f) (table (padded_rows f)) w i ≡ numerator f w i
unfolding numerator
padded_numerator f w i h =
    applied_rows (condition_count f) (table (padded_rows f)) (table (description f).rows) w i
    (λ j k. padded_entry f i j (lt_of_lt_of_le h (angle_bound f)) (lt_of_lt_of_le k (condition_bound f)))

-- all of them
pub padded_numerators : (f : Figure) (w : ℕ → ℤ) → listed (angle_count f) (applied (condition_count f) (table (padded_rows f)) w) ≡ listed (angle_count f) (numerator f w)
padded_numerators f w = listed_ext (angle_count f) (applied (condition_count f) (table (padded_rows f)) w) (numerator f w) (padded_numerator f w)
