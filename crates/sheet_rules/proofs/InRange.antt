-- What the rows of the values let pass: every value lies within its range, and so fits its field. Assumes nothing.
use Rattle.std.specs.Prelude.{ℕ, ◌+◌, ◌≤◌, ◌<◌, ◌^◌, List, ◌++◌, ◌≡◌, ℤ, pos, negsuc, neg_ℤ, length, get_or, ◌≤ℤ◌}
use Rattle.vocabulary.specs.{subst, arith, leb→le, length-append, list-get_or_append, get_or-append-add, mag}
use Rattle.refusals.specs.Order.{NoneHolds}
use Rattle.refusals.specs.Ranges.{least_angle, most_angle, least_log_sine, most_log_sine, most_difference, least_rounds}
use Rattle.refusals.proofs.Nowhere.{limit_within, angles_within, rounds_within, fixed_within, log_sines_within, differences_within}
use Rattle.sheet_layout.specs.declared.Kind.{Kind}
use Rattle.sheet_rules.specs.{Sheet.Values, Judging.most_limit_or_tolerance, Judging.most_rounds_of, Judging.value_rows}

pub record InRange (kind : Kind) (v : Values) : Type 0 where
  pub limit_or_tolerance : v.limit_or_tolerance ≤ most_limit_or_tolerance kind
  pub angles : (i : ℕ) → i < length v.angles → (least_angle ≤ get_or v.angles i 0) × (get_or v.angles i 0 ≤ most_angle)
  pub rounds : (i : ℕ) → i < length v.rounds → (least_rounds ≤ get_or v.rounds i 0) × (get_or v.rounds i 0 ≤ most_rounds_of kind)
  pub fixed : (i : ℕ) → i < length v.fixed → (least_angle ≤ get_or v.fixed i 0) × (get_or v.fixed i 0 ≤ most_angle)
  pub log_sines : (i : ℕ) → i < length v.log_sines → (least_log_sine ≤ get_or v.log_sines i 0) × (get_or v.log_sines i 0 ≤ most_log_sine)
  pub differences : (i : ℕ) → i < length v.log_sines
      → (neg_ℤ (pos most_difference) ≤ℤ get_or v.differences i (pos 0)) × (get_or v.differences i (pos 0) ≤ℤ pos most_difference)
  pub log_sides : (i : ℕ) → i < length v.log_sides → (least_log_sine ≤ get_or v.log_sides i 0) × (get_or v.log_sides i 0 ≤ most_log_sine)

abbrev Within : ℕ → Type 0
Within log = (least_log_sine ≤ log) × (log ≤ most_log_sine)

pub in_range : (kind : Kind) (v : Values) → NoneHolds (value_rows kind v) → InRange kind v
in_range kind v none =
    let entries : List ℕ = v.log_sines ++ v.log_sides in
    let each = log_sines_within entries v.differences none.1.1.1.1.1.0 in
    let both : length entries ≡ length v.log_sines + length v.log_sides = length-append v.log_sines v.log_sides in
    record {
      limit_or_tolerance = limit_within (most_limit_or_tolerance kind) v.limit_or_tolerance none.0;
      angles = angles_within v.angles none.1.0;
      rounds = rounds_within (most_rounds_of kind) v.rounds none.1.1.0;
      fixed = fixed_within v.fixed none.1.1.1.0;
      log_sines = λ i h. subst Within (list-get_or_append v.log_sines v.log_sides 0 i h) (each i (omega arith));
      differences = λ i h. differences_within entries v.differences none.1.1.1.1.1.0 i (omega arith);
      log_sides = λ i h. subst Within (get_or-append-add v.log_sines v.log_sides i 0) (each (length v.log_sines + i) (omega arith));
    }

-- a difference within its range fits 15 bits
pub difference_fits : (d : ℤ) → neg_ℤ (pos most_difference) ≤ℤ d → d ≤ℤ pos most_difference → mag d < 2 ^ 14
difference_fits (pos n) l h = omega (arith, leb→le n 9999 h.le)
difference_fits (negsuc n) l h = omega (arith, leb→le n 9998 l.le)
