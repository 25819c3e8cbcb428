-- No sheet is turned back at a place past the number of angles of the largest figure, whoever turns it back: the reader, or a pass.
-- Assumes nothing.
use Rattle.std.specs.Prelude.{Err, Ok}
use Rattle.sheet_layout.specs.Head.{Look}
use Rattle.std.specs.Prelude.{ℕ, ◌≤◌, List, [], ◌++◌, length}
use Rattle.vocabulary.specs.{le_trans, arith, lit≤, length-append}
use Rattle.whole.proofs.Lists.{length_listed}
use Rattle.refusals.specs.{Order.Row, Order.HoldsNowhere, Table.lengths_row}
use Rattle.refusals.proofs.PlaceBounds.{PlacesWithin}
use Rattle.figures.specs.{declared.Figure.Figure, Figure.angle_count, Figure.condition_count, Numerators.most_angles}
use Rattle.figures.proofs.Figures.{angle_bound, condition_bound}
use Rattle.sheet_layout.specs.{declared.Kind.Kind, declared.Pass.Pass, Kinds.pass_of, Layout.fixed_in, Layout.sine_entries_in, Layout.sides_in}
use Rattle.sheet_layout.specs.{Head.head_rows, Head.look_of, Head.of_head}
use Rattle.sheet_layout.proofs.Sizes.{entry_bound}
use Rattle.sheet_rules.specs.{Sheet.values_read, Judging.own_lengths, Judging.body_rows}
use Rattle.pass_rules.specs.FirstPass.{first_lengths, first_rows, misclosure, corrected}
use Rattle.pass_rules.specs.SecondPass.{SineEntries, second_lengths, second_rows, second_adjusted}
use Rattle.pass_sheet.specs.Worked.{entries_of, rows_of_pass, pass_rows, sheet_rows}
use Rattle.pass_sheet.proofs.SheetBounds as SheetBounds

-- ---- the reader

pub head_within : (sheet : List ℕ) (later : List Row) → PlacesWithin most_angles later → PlacesWithin most_angles (head_rows sheet ++ later)
unfolding head_rows
head_within sheet later within = λ short kind figure. within

module _ (kind : Kind) (f : Figure) (sheet : List ℕ) where
  pub angles_few : length (values_read kind f sheet).angles ≤ most_angles
  unfolding values_read
  angles_few = rw (length_listed (angle_count f) _) (angle_bound f)

  pub rounds_few : length (values_read kind f sheet).rounds ≤ most_angles
  unfolding values_read
  rounds_few = rw (length_listed (angle_count f) _) (angle_bound f)

  pub fixed_few : length (values_read kind f sheet).fixed ≤ most_angles
  unfolding values_read
  fixed_few = rw (length_listed (fixed_in kind f) _) (le_trans (SheetBounds.fixed_few kind f) (lit≤ tt))

  -- those of number 8: the log-sines, and the known log sides after them
  pub entries_few : length ((values_read kind f sheet).log_sines ++ (values_read kind f sheet).log_sides) ≤ most_angles
  unfolding values_read
  entries_few = rw (length-append, length_listed (sine_entries_in kind f), length_listed (sides_in kind f)) (entry_bound kind f)

  pub body_within : (lent : List ℕ) (later : List Row) → PlacesWithin most_angles later
      → PlacesWithin most_angles (body_rows kind f sheet lent ++ later)
  unfolding body_rows
  body_within lent later within =
      λ size lengths filling limit. (angles_few, λ angles. (rounds_few, λ rounds. (fixed_few, λ fixed summed. (entries_few, λ entries. within))))

-- ---- the passes, where slices of the right lengths are few values

conditions_few : (f : Figure) → condition_count f ≤ most_angles
conditions_few f = omega (arith, condition_bound f)

pub first_within : (f : Figure) (limit : ℕ) (angles rounds fixed lent : List ℕ)
    → (HoldsNowhere (lengths_row lent (first_lengths f)) → (length angles ≤ most_angles) × (length rounds ≤ most_angles) × (length fixed ≤ most_angles))
    → PlacesWithin most_angles (first_rows f limit angles rounds fixed lent)
unfolding first_rows
first_within f limit angles rounds fixed lent few = λ lengths range. (
  (few lengths).0,
  λ angle. (
    (few lengths).1,
    λ round. (
      (few lengths).2,
      λ fixed-angle summed. (
        rw (length_listed (condition_count f) (misclosure f angles fixed)) (conditions_few f),
        λ misclosures. (rw (length_listed (angle_count f) (corrected f angles fixed)) (angle_bound f), λ results. tt),
      ),
    ),
  ),
)

pub second_within : (f : Figure) (tolerance : ℕ) (angles rounds : List ℕ) (e : SineEntries) (lent : List ℕ)
    → (HoldsNowhere (lengths_row lent (second_lengths f))
    → (length angles ≤ most_angles) × (length rounds ≤ most_angles) × (length (e.log_sines ++ e.log_sides) ≤ most_angles))
    → PlacesWithin most_angles (second_rows f tolerance angles rounds e lent)
unfolding second_rows
second_within f tolerance angles rounds e lent few = λ lengths range. (
  (few lengths).0,
  λ angle. (
    (few lengths).1,
    λ round. (
      (few lengths).2,
      λ entries zero pole-row side-row. (rw (length_listed (angle_count f) (second_adjusted f angles e)) (angle_bound f), λ results. tt),
    ),
  ),
)

-- ---- a sheet worked through

pass_within : (kind : Kind) (f : Figure) (sheet : List ℕ) → PlacesWithin most_angles (pass_rows kind f (values_read kind f sheet))
pass_within kind f sheet = go (pass_of kind) _
  where
    go : (pass : Pass) (limit_or_tolerance : ℕ) → PlacesWithin most_angles (rows_of_pass pass f limit_or_tolerance (values_read kind f sheet))
    go Pass.First limit =
        first_within f limit (values_read kind f sheet).angles (values_read kind f sheet).rounds (values_read kind f sheet).fixed _
        (λ lengths. (angles_few kind f sheet, rounds_few kind f sheet, fixed_few kind f sheet))
    go Pass.Second tolerance =
        second_within f tolerance (values_read kind f sheet).angles (values_read kind f sheet).rounds (entries_of (values_read kind f sheet)) _
        (λ lengths. (angles_few kind f sheet, rounds_few kind f sheet, entries_few kind f sheet))

pub sheet_within : (sheet : List ℕ) → PlacesWithin most_angles (sheet_rows sheet)
unfolding sheet_rows
sheet_within sheet = head_within sheet _ (go (look_of sheet))
  where
    go : (found : Look)
        → PlacesWithin most_angles
        (of_head found [] (λ kind f. body_rows kind f sheet (own_lengths kind f) ++ pass_rows kind f (values_read kind f sheet)))
    go (Ok head) = body_within head.kind head.figure sheet (own_lengths head.kind head.figure) (pass_rows head.kind head.figure (values_read head.kind head.figure sheet)) (pass_within head.kind head.figure sheet)
    go (Err refusal) = tt
