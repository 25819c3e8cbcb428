-- What an accepted first pass says of its sheet, row by row. Assumes nothing.
use Rattle.std.specs.Prelude.{Ok}
use Rattle.std.specs.Prelude.{List, ◌≡◌, ℕ, ◌≤◌, ◌<◌, pos, nat_abs, length, get_or, ◌≤ℤ◌}
use Rattle.whole.specs.Lists.{listed}
use Rattle.refusals.specs.{Order.Row, Order.judged, Table.sum_of_all, Table.fixed_sum}
use Rattle.refusals.specs.Ranges.{least_angle, most_angle, most_limit, least_rounds, most_rounds}
use Rattle.refusals.proofs.{InSteps.both_parts, Rows.none_holds}
use Rattle.refusals.proofs.Nowhere.{same_lengths, limit_within, angles_most, rounds_within, fixed_most, fixed_summed}
use Rattle.figures.specs.{declared.Figure.Figure, Figure.angle_count, Figure.condition_count}
use Rattle.pass_rules.specs.FirstPass.{limit_of, misclosure, corrected, misclosures_of, first_lengths, given_rows, work_rows, first_rows}
use Rattle.pass_rules.proofs.WithinRange as range

module _ (f : Figure) (limit : ℕ) (angles rounds fixed lent : List ℕ) where
  -- what the rows say that ask for no work
  pub record Entries : Type 0 where
    pub lengths : lent ≡ first_lengths f
    pub limit_range : limit ≤ most_limit
    pub angle_most : (i : ℕ) → get_or angles i 0 ≤ most_angle
    pub rounds_range : (i : ℕ) → i < length rounds → (least_rounds ≤ get_or rounds i 0) × (get_or rounds i 0 ≤ most_rounds)
    pub fixed_angle_most : (i : ℕ) → get_or fixed i 0 ≤ most_angle
    pub fixed_angles_sum : sum_of_all fixed ≡ fixed_sum (length fixed)

  pub entries_passed : judged (given_rows f limit angles rounds fixed lent) ≡ Ok tt → Entries
  entries_passed e =
      let none = none_holds (given_rows f limit angles rounds fixed lent) e in
      record {
        lengths = same_lengths lent (first_lengths f) none.0;
        limit_range = limit_within most_limit limit none.1.0;
        angle_most = angles_most angles none.1.1.0;
        rounds_range = rounds_within most_rounds rounds none.1.1.1.0;
        fixed_angle_most = fixed_most fixed none.1.1.1.1.0;
        fixed_angles_sum = fixed_summed fixed none.1.1.1.1.1.0;
      }

  -- and the others
  pub record Accepted : Type 0 where
    pub entries : Entries
    pub misclosure_within : (j : ℕ) → j < condition_count f → nat_abs (misclosure f angles fixed j) ≤ limit_of limit
    pub result_within : (i : ℕ) → i < angle_count f → (pos least_angle ≤ℤ corrected f angles fixed i) × (corrected f angles fixed i ≤ℤ pos most_angle)

  abbrev own_rows : List Row
  own_rows = work_rows limit (misclosures_of f angles fixed) (listed (angle_count f) (corrected f angles fixed))

  pub accepted : judged (first_rows f limit angles rounds fixed lent) ≡ Ok tt → Accepted
  unfolding first_rows
  accepted e =
      let parts = both_parts (given_rows f limit angles rounds fixed lent) own_rows e in
      let none = none_holds own_rows parts.1 in
      record {
        entries = entries_passed parts.0;
        misclosure_within = λ j h. range.misclosure_within (condition_count f) (misclosure f angles fixed) j h (limit_of limit) none.0;
        result_within = λ i h. range.result_within (angle_count f) (corrected f angles fixed) i h none.1.0;
      }
