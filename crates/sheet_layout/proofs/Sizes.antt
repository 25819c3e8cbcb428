-- Sizes of sheets, computed over all kinds and figures: document 01, "Packed sheets", and document 02, M-106.
use Rattle.std.specs.Prelude.{ℕ, ◌+◌, ◌*◌, ◌≤◌, ◌<◌, Bool, [], ◌∷◌, map, ◌≡◌, refl, eqb, leb}
use Rattle.vocabulary.specs.{arith, eqb→eq, leb→le}
use Rattle.bits.specs.Bits.{total_width, byte_count}
use Rattle.figures.specs.{declared.Figure.Figure, declared.Counts.Counts, Numerators.most_angles, Numerators.most_sides}
use Rattle.figures.specs.Figure.{all_figures, angle_count, fixed_count, side_count, counts_of}
use Rattle.figures.proofs.Figures.{each_figure, angle_bound, side_signed}
use Rattle.sheet_layout.specs.{declared.Kind.Kind, declared.Pass.Pass, Kinds.pass_of, Kinds.carries_rounds, Kinds.of_pass}
use Rattle.sheet_layout.specs.declared.Kind.TheVariants.{One, Two, Three, Four, Five}
use Rattle.sheet_layout.specs.Layout.{layout, rounds_bits, sine_entries_in, sides_in, bit_count, sheet_size}
use Rattle.sheet_layout.proofs.EachKind.{each_kind, each}

-- in the order of `all_figures`: code 1; code 2 with n = 3 and 4; code 3 with n = 3 to 8
pub kind-1_sizes : map (sheet_size One) all_figures ≡ 26 ∷ 38 ∷ 49 ∷ 29 ∷ 38 ∷ 46 ∷ 55 ∷ 64 ∷ 72 ∷ []
unfolding sheet_size bit_count layout total_width byte_count
kind-1_sizes = refl

pub kind-2_sizes : map (sheet_size Two) all_figures ≡ 68 ∷ 76 ∷ 107 ∷ 76 ∷ 100 ∷ 125 ∷ 149 ∷ 173 ∷ 198 ∷ []
unfolding sheet_size bit_count layout total_width byte_count
kind-2_sizes = refl

-- kind 3 has kind 1's fields
pub kind-3_layout : layout Three ≡ layout One
unfolding layout
kind-3_layout = refl

pub kind-4_sizes : map (sheet_size Four) all_figures ≡ 34 ∷ 47 ∷ 61 ∷ 38 ∷ 50 ∷ 61 ∷ 73 ∷ 85 ∷ 96 ∷ []
unfolding sheet_size bit_count layout total_width byte_count
kind-4_sizes = refl

pub kind-5_sizes : map (sheet_size Five) all_figures ≡ 76 ∷ 85 ∷ 119 ∷ 85 ∷ 112 ∷ 140 ∷ 167 ∷ 194 ∷ 222 ∷ []
unfolding sheet_size bit_count layout total_width byte_count
kind-5_sizes = refl

-- no sheet is longer than that of kind 5, code 3, n = 8
pub longest : (kind : Kind) (f : Figure) → sheet_size kind f ≤ 222
unfolding sheet_size bit_count layout total_width byte_count
longest kind f = leb→le (sheet_size kind f) 222 (each (λ k g. leb (sheet_size k g) 222) tt kind f)

-- ---- how many values

pub fixed_bound : (f : Figure) → fixed_count f ≤ 4
fixed_bound f = leb→le (fixed_count f) 4 (each_figure (λ g. leb (fixed_count g) 4) tt f)

pub side_bound : (f : Figure) → side_count f ≤ most_sides
side_bound f = (side_signed f).side_few

-- no figure has more log-sines and known log sides together than the largest has angles
pub entry_bound : (kind : Kind) (f : Figure) → sine_entries_in kind f + sides_in kind f ≤ most_angles
entry_bound kind f = leb→le (sine_entries_in kind f + sides_in kind f) most_angles (each (λ k g. leb (sine_entries_in k g + sides_in k g) most_angles) tt kind f)

pub few_angles : {r : Counts} (f : Figure) → r ≡ counts_of f → r.angles ≤ 24
few_angles f e = rw e (angle_bound f)

pub few_fixed : {r : Counts} (f : Figure) → r ≡ counts_of f → r.fixed ≤ 4
few_fixed f e = rw e (fixed_bound f)

pub few_sides : {r : Counts} (f : Figure) → r ≡ counts_of f → r.sides ≤ most_sides
few_sides f e = rw e (side_bound f)

-- ---- how many bits

-- the rounds of an angle, and of all angles
pub rounds_small : {step : ℕ} (kind : Kind) → step ≡ rounds_bits (carries_rounds kind) → step ≤ 8
rounds_small kind e = rw e (leb→le (rounds_bits (carries_rounds kind)) 8 (each_kind (λ k. leb (rounds_bits (carries_rounds k)) 8) tt kind))

pub few_rounds : {r : Counts} {step : ℕ} (kind : Kind) (f : Figure) → r ≡ counts_of f → step ≡ rounds_bits (carries_rounds kind) → step * r.angles ≤ 192
few_rounds kind f e d =
    let n : ℕ = rounds_bits (carries_rounds kind) * angle_count f in
    rw (e, d) (leb→le n 192 (each (λ k g. leb (rounds_bits (carries_rounds k) * angle_count g) 192) tt kind f))

-- by the pass that the kind is for and whether it carries rounds
abbrev pub bits_for : Pass → (rounds : Bool) → Figure → ℕ
bits_for pass rounds f =
    of_pass pass (22 + 23 * (angle_count f + fixed_count f)) (18 + 27 * side_count f + 65 * angle_count f) + rounds_bits rounds * angle_count f

pub pass_bits : (kind : Kind) (f : Figure) → bit_count kind f ≡ bits_for (pass_of kind) (carries_rounds kind) f
unfolding bit_count layout total_width
pass_bits kind f =
    eqb→eq (bit_count kind f) (bits_for (pass_of kind) (carries_rounds kind) f)
    (each (λ k g. eqb (bit_count k g) (bits_for (pass_of k) (carries_rounds k) g)) tt kind f)

-- the figure with the most angles has no known sides
pub few_bits : (kind : Kind) (f : Figure) → bit_count kind f ≤ 1_770
unfolding bit_count layout total_width
few_bits kind f = leb→le (bit_count kind f) 1_770 (each (λ k g. leb (bit_count k g) 1_770) tt kind f)

-- the bytes hold the fields, and less than a byte more
pub bits_within : (kind : Kind) (f : Figure) → bit_count kind f ≤ 8 * sheet_size kind f
unfolding sheet_size byte_count
bits_within kind f = omega arith

pub bits_nearly : (kind : Kind) (f : Figure) → 8 * sheet_size kind f < bit_count kind f + 8
unfolding sheet_size byte_count
bits_nearly kind f = omega arith
