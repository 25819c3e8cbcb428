-- A sheet worked through.
use Rattle.std.specs.Prelude.{Err, Ok}
use Rattle.sheet_layout.specs.Head.{Look}
use Rattle.sheet_rules.specs.Sheet.{Reading}
use Rattle.std.specs.Prelude.{Err, Ok}
use Rattle.refusals.specs.Numbers.{Verdict}
use Rattle.std.specs.Prelude.{ℕ, List, [], ◌∷◌, ◌++◌, ℤ, length}
use Rattle.refusals.specs.{declared.Refusal.Refusal, Numbers.Told, Numbers.told, Numbers.refusal_told}
use Rattle.refusals.specs.{Order.Row, Order.judged}
use Rattle.whole.specs.Lists.{listed}
use Rattle.figures.specs.{declared.Figure.Figure, Figure.angle_count}
use Rattle.sheet_layout.specs.{declared.Kind.Kind, declared.Pass.Pass}
use Rattle.sheet_layout.specs.{Head.head_rows, Head.look_of, Head.of_head, Kinds.pass_of, Kinds.default_of}
use Rattle.sheet_rules.specs.{declared.ReadHead.ReadHead, Lent.Slices, Sheet.Values, Sheet.values_read}
use Rattle.sheet_rules.specs.Judging.{own_lengths, body_rows, reading_of, reading_after}
use Rattle.pass_rules.specs.Pass.{in_force}
use Rattle.pass_rules.specs.FirstPass.{first_result_lengths, first_rows, misclosures_of, numerators_of, rounded_of, corrected_of, rests_of}
use Rattle.pass_rules.specs.SecondPass.{SineEntries, sine_entries, sine_misclosure, side_misclosure, divisor, second_numerator, second_result_lengths, second_rows, reduced_of, side_reduced_of, second_rounded_of, adjusted_of, second_rests_of}

-- ---- what is shown of a sheet

-- what became of it
pub data Outcome : Type 0 where
  First : Figure → Outcome
  Second : Figure → (w sideW divisor : ℤ) → Outcome
  Refused : Refusal → Outcome

-- and a list for each thing that its lines show, in the order of the numbers of angles or conditions; none where a kind has none
pub record WorkedSheet : Type 0 where
  pub outcome : Outcome
  pub given : List ℕ
  pub rounds : List ℕ
  pub misclosures : List ℤ
  pub reduced : List ℤ
  pub side_reduced : List ℤ
  pub numerators : List ℤ
  pub rounded : List ℤ
  pub results : List ℕ
  pub rests : List ℤ

abbrev pub refused_sheet : Refusal → WorkedSheet
refused_sheet r = record {
  outcome = Outcome.Refused r;
  given = [];
  rounds = [];
  misclosures = [];
  reduced = [];
  side_reduced = [];
  numerators = [];
  rounded = [];
  results = [];
  rests = [];
}

abbrev pub first_shown : Figure → (angles rounds fixed : List ℕ) → WorkedSheet
first_shown f angles rounds fixed = record {
  outcome = First f;
  given = angles;
  rounds = rounds;
  misclosures = misclosures_of f angles fixed;
  reduced = [];
  side_reduced = [];
  numerators = numerators_of f angles fixed;
  rounded = rounded_of f angles fixed;
  results = corrected_of f angles fixed;
  rests = rests_of f angles fixed;
}

abbrev pub shown_if : Verdict → WorkedSheet → WorkedSheet
shown_if (Ok tt) shown = shown
shown_if (Err r) shown = refused_sheet r

-- kinds for the first pass: that of the figure, with slices of the right lengths lent for the results
abbrev pub first_sheet_lengths : Figure → (angles rounds fixed : List ℕ) → List ℕ
first_sheet_lengths f angles rounds fixed = length angles ∷ length rounds ∷ length fixed ∷ first_result_lengths f

unfoldable pub first_sheet : Figure → (limit : ℕ) → (angles rounds fixed : List ℕ) → WorkedSheet
first_sheet f limit angles rounds fixed =
    shown_if (judged (first_rows f limit angles rounds fixed (first_sheet_lengths f angles rounds fixed))) (first_shown f angles rounds fixed)

abbrev pub second_shown : Figure → (angles rounds : List ℕ) → SineEntries → WorkedSheet
second_shown f angles rounds e = record {
  outcome = Second f (sine_misclosure f e) (side_misclosure f e) (divisor f e);
  given = angles;
  rounds = rounds;
  misclosures = [];
  reduced = reduced_of f e;
  side_reduced = side_reduced_of f e;
  numerators = listed (angle_count f) (second_numerator f e);
  rounded = second_rounded_of f e;
  results = adjusted_of f angles e;
  rests = second_rests_of f e;
}

-- kinds for the second pass: that of the figure, with slices of the right lengths lent for the results
abbrev pub second_sheet_lengths : Figure → (angles rounds : List ℕ) → SineEntries → List ℕ
second_sheet_lengths f angles rounds e =
    length angles ∷ length rounds ∷ length e.log_sines ∷ length e.differences ∷ length e.log_sides ∷ second_result_lengths f

unfoldable pub second_sheet : Figure → (tolerance : ℕ) → (angles rounds : List ℕ) → SineEntries → WorkedSheet
second_sheet f tolerance angles rounds e =
    shown_if (judged (second_rows f tolerance angles rounds e (second_sheet_lengths f angles rounds e))) (second_shown f angles rounds e)

-- ---- from what the reader answered

-- what a sheet for the second pass has beside its angles
abbrev pub entries_of : Values → SineEntries
entries_of v = sine_entries v.log_sines v.differences v.log_sides

abbrev pub worked_pass : Pass → Figure → (limit_or_tolerance : ℕ) → (angles rounds fixed : List ℕ) → SineEntries → WorkedSheet
worked_pass Pass.First f limit angles rounds fixed e = first_sheet f limit angles rounds fixed
worked_pass Pass.Second f tolerance angles rounds fixed e = second_sheet f tolerance angles rounds e

-- the pass is handed L or e in force, where 0 stands for the default of the sheet's kind (document 02, M-102)
abbrev pub worked_kind : Kind → Figure → (limit_or_tolerance : ℕ) → (angles rounds fixed : List ℕ) → SineEntries → WorkedSheet
worked_kind kind f limit_or_tolerance angles rounds fixed e = worked_pass (pass_of kind) f (in_force (default_of kind) limit_or_tolerance) angles rounds fixed e

-- what was read, with its values in slices
abbrev pub worked_slices : ReadHead → Slices → WorkedSheet
worked_slices read s =
    worked_kind read.kind read.figure read.limit_or_tolerance s.angles s.rounds s.fixed (sine_entries s.log_sines s.differences s.log_sides)

-- the values that the reader gives, where it gives them
abbrev pub worked_read : Reading → List ℕ → WorkedSheet
worked_read (Err r) sheet = refused_sheet r
worked_read (Ok read) sheet =
    worked_kind read.kind read.figure read.limit_or_tolerance (values_read read.kind read.figure sheet).angles
    (values_read read.kind read.figure sheet).rounds (values_read read.kind read.figure sheet).fixed
    (entries_of (values_read read.kind read.figure sheet))

-- and of a sheet whose head is known
abbrev pub worked_body : Kind → Figure → List ℕ → WorkedSheet
worked_body kind f sheet = worked_read (reading_after (judged (body_rows kind f sheet (own_lengths kind f))) kind f sheet) sheet

abbrev pub worked_look : Look → List ℕ → WorkedSheet
worked_look (Err r) sheet = refused_sheet r
worked_look (Ok head) sheet = worked_read (reading_of sheet (own_lengths head.kind head.figure)) sheet

-- a sheet worked through, from any bytes
unfoldable pub worked_of : List ℕ → WorkedSheet
worked_of sheet = worked_look (look_of sheet) sheet

-- ---- the order of a sheet worked through: the reader's rows, in slices of the right lengths, and then those of the pass that its kind
-- is for

abbrev pub rows_of_pass : Pass → Figure → (limit_or_tolerance : ℕ) → Values → List Row
rows_of_pass Pass.First f limit v = first_rows f limit v.angles v.rounds v.fixed (first_sheet_lengths f v.angles v.rounds v.fixed)
rows_of_pass Pass.Second f tolerance v =
    second_rows f tolerance v.angles v.rounds (entries_of v) (second_sheet_lengths f v.angles v.rounds (entries_of v))

abbrev pub pass_rows : Kind → Figure → Values → List Row
pass_rows kind f v = rows_of_pass (pass_of kind) f (in_force (default_of kind) v.limit_or_tolerance) v

unfoldable pub sheet_rows : List ℕ → List Row
sheet_rows sheet =
    head_rows sheet
    ++ of_head (look_of sheet) [] (λ kind f. body_rows kind f sheet (own_lengths kind f) ++ pass_rows kind f (values_read kind f sheet))

-- the number and place of an outcome
abbrev pub outcome_told : Outcome → Told
outcome_told (First f) = told 0 0
outcome_told (Second f w sideW divisor) = told 0 0
outcome_told (Outcome.Refused refusal) = refusal_told refusal

-- the log-sines, sine differences and known log sides that a sheet holds
abbrev pub entries_in : List ℕ → SineEntries
entries_in sheet = of_head (look_of sheet) (sine_entries [] [] []) (λ kind f. entries_of (values_read kind f sheet))

-- and the rounds of its angles
abbrev pub rounds_held : List ℕ → List ℕ
rounds_held sheet = of_head (look_of sheet) [] (λ kind f. (values_read kind f sheet).rounds)
