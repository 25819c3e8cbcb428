-- What the two passes promise: document 01, "The two passes" and "What the promises must decide", and document 02, M-106, for the rounds
-- of each angle. What is given, what is lent, what is answered, and what everything lent holds in the end.
use Rattle.pass_rules.specs.SecondPass.{SecondAnswer}
use Rattle.refusals.specs.Numbers.{Verdict}
use Rattle.std.specs.Prelude.{ℕ, List, [], ◌∷◌, ℤ, length}
use Rattle.refusals.specs.{Order.Row, Order.judged, Promise.Promised, Promise.stored}
use Rattle.figures.specs.{declared.Figure.Figure, Figure.figure_of, Figure.of_named}
use Rattle.pass_rules.specs.FirstPass.{first_rows, first_pass_rows, first_pass_verdict, misclosures_of, numerators_of, rounded_of, corrected_of, rests_of}
use Rattle.pass_rules.specs.SecondPass.{SineEntries, second_rows, second_pass_rows, second_pass_verdict, second_answer_for, second_pass_answer, reduced_of, side_reduced_of, high_numerators_of, low_numerators_of, second_rounded_of, adjusted_of, second_rests_of}

-- ---- the first pass

pub record FirstGiven : Type 0 where
  pub code : ℕ
  pub n : ℕ
  pub limit : ℕ
  pub angles : List ℕ
  pub rounds : List ℕ
  pub fixed : List ℕ

abbrev pub first_given : (code n limit : ℕ) → (angles rounds fixed : List ℕ) → FirstGiven
first_given code n limit angles rounds fixed = record { code = code; n = n; limit = limit; angles = angles; rounds = rounds; fixed = fixed }

pub record FirstLent : Type 0 where
  pub misclosures : List ℤ
  pub numerators : List ℤ
  pub rounded : List ℤ
  pub corrected : List ℕ
  pub corrected_rounds : List ℕ
  pub rests : List ℤ

abbrev pub first_lent : (misclosures numerators rounded : List ℤ) → (corrected corrected_rounds : List ℕ) → (rests : List ℤ) → FirstLent
first_lent misclosures numerators rounded corrected corrected_rounds rests = record {
  misclosures = misclosures;
  numerators = numerators;
  rounded = rounded;
  corrected = corrected;
  corrected_rounds = corrected_rounds;
  rests = rests;
}

-- the lengths of all slices, for number 2
abbrev pub first_results_lent : FirstLent → List ℕ
first_results_lent lent =
    length lent.misclosures ∷ length lent.numerators ∷ length lent.rounded ∷ length lent.corrected ∷ length lent.corrected_rounds
    ∷ length lent.rests ∷ []

abbrev pub first_slices : (angles rounds fixed : List ℕ) → FirstLent → List ℕ
first_slices angles rounds fixed lent = length angles ∷ length rounds ∷ length fixed ∷ first_results_lent lent

abbrev pub first_lengths_lent : FirstGiven → FirstLent → List ℕ
first_lengths_lent given lent = first_slices given.angles given.rounds given.fixed lent

-- its order
abbrev pub first_rows_of : FirstGiven → FirstLent → List Row
first_rows_of given lent =
    first_pass_rows given.code given.n given.limit given.angles given.rounds given.fixed (first_lengths_lent given lent)

abbrev pub first_answer : FirstGiven → FirstLent → Verdict
first_answer given lent =
    first_pass_verdict given.code given.n given.limit given.angles given.rounds given.fixed (first_lengths_lent given lent)

-- what a figure's sheet gives: the rounds are those that were given
abbrev pub first_values_of : Figure → (angles rounds fixed : List ℕ) → FirstLent
first_values_of f angles rounds fixed =
    first_lent (misclosures_of f angles fixed) (numerators_of f angles fixed) (rounded_of f angles fixed) (corrected_of f angles fixed) rounds
    (rests_of f angles fixed)

abbrev pub first_values : Figure → FirstGiven → FirstLent
first_values f given = first_values_of f given.angles given.rounds given.fixed

-- everything lent in the end: the values of the figure that code and n name where no row holds, and else what it held
abbrev pub first_left : FirstGiven → FirstLent → FirstLent
first_left given lent =
    of_named (figure_of given.code given.n) lent (λ f. stored (first_answer given lent) (first_values f given) lent)

abbrev pub FirstPromise : FirstGiven → (entry : FirstLent) → (answer : Verdict) → (exit : FirstLent) → Type 0
FirstPromise given entry answer exit = Promised (first_answer given entry) (first_left given entry) answer exit

-- of a figure that is named already: 2, 3, 4, 16, 5, 14, 6, 7
abbrev pub first_verdict_of : Figure → (limit : ℕ) → (angles rounds fixed : List ℕ) → FirstLent → Verdict
first_verdict_of f limit angles rounds fixed lent = judged (first_rows f limit angles rounds fixed (first_slices angles rounds fixed lent))

abbrev pub FirstPromiseOf : Figure → (limit : ℕ) → (angles rounds fixed : List ℕ) → (entry : FirstLent) → (answer : Verdict) → (exit : FirstLent)
    → Type 0
FirstPromiseOf f limit angles rounds fixed entry answer exit =
    Promised (first_verdict_of f limit angles rounds fixed entry)
    (stored (first_verdict_of f limit angles rounds fixed entry) (first_values_of f angles rounds fixed) entry) answer exit

-- ---- the second pass

pub record SecondGiven : Type 0 where
  pub code : ℕ
  pub n : ℕ
  pub tolerance : ℕ
  pub angles : List ℕ
  pub rounds : List ℕ
  pub entries : SineEntries

abbrev pub second_given : (code n tolerance : ℕ) → (angles rounds : List ℕ) → SineEntries → SecondGiven
second_given code n tolerance angles rounds entries = record {
  code = code;
  n = n;
  tolerance = tolerance;
  angles = angles;
  rounds = rounds;
  entries = entries;
}

-- A, B, the high and the low words of the numerators, rounded corrections, adjusted angles and their rounds, rests
pub record SecondLent : Type 0 where
  pub reduced : List ℤ
  pub side_reduced : List ℤ
  pub high_numerators : List ℤ
  pub low_numerators : List ℕ
  pub rounded : List ℤ
  pub adjusted : List ℕ
  pub adjusted_rounds : List ℕ
  pub rests : List ℤ

abbrev pub second_lent : (reduced side_reduced high_numerators : List ℤ) → (low_numerators : List ℕ) → (rounded : List ℤ) → (adjusted adjusted_rounds : List ℕ)
    → (rests : List ℤ) → SecondLent
second_lent reduced side_reduced high_numerators low_numerators rounded adjusted adjusted_rounds rests = record {
  reduced = reduced;
  side_reduced = side_reduced;
  high_numerators = high_numerators;
  low_numerators = low_numerators;
  rounded = rounded;
  adjusted = adjusted;
  adjusted_rounds = adjusted_rounds;
  rests = rests;
}

-- the lengths of all slices, for number 2
abbrev pub second_results_lent : SecondLent → List ℕ
second_results_lent lent =
    length lent.reduced ∷ length lent.side_reduced ∷ length lent.high_numerators ∷ length lent.low_numerators
    ∷ length lent.rounded ∷ length lent.adjusted ∷ length lent.adjusted_rounds ∷ length lent.rests ∷ []

abbrev pub second_slices : (angles rounds : List ℕ) → SineEntries → SecondLent → List ℕ
second_slices angles rounds e lent =
    length angles ∷ length rounds ∷ length e.log_sines ∷ length e.differences ∷ length e.log_sides ∷ second_results_lent lent

abbrev pub second_lengths_lent : SecondGiven → SecondLent → List ℕ
second_lengths_lent given lent = second_slices given.angles given.rounds given.entries lent

-- its order
abbrev pub second_rows_of : SecondGiven → SecondLent → List Row
second_rows_of given lent =
    second_pass_rows given.code given.n given.tolerance given.angles given.rounds given.entries (second_lengths_lent given lent)

abbrev pub second_verdict : SecondGiven → SecondLent → Verdict
second_verdict given lent =
    second_pass_verdict given.code given.n given.tolerance given.angles given.rounds given.entries (second_lengths_lent given lent)

abbrev pub second_answer : SecondGiven → SecondLent → SecondAnswer
second_answer given lent =
    second_pass_answer given.code given.n given.tolerance given.angles given.rounds given.entries (second_lengths_lent given lent)

-- what a figure's sheet gives: the rounds are those that were given
abbrev pub second_values_of : Figure → (angles rounds : List ℕ) → SineEntries → SecondLent
second_values_of f angles rounds e =
    second_lent (reduced_of f e) (side_reduced_of f e) (high_numerators_of f e) (low_numerators_of f e) (second_rounded_of f e) (adjusted_of f angles e)
    rounds (second_rests_of f e)

abbrev pub second_values : Figure → SecondGiven → SecondLent
second_values f given = second_values_of f given.angles given.rounds given.entries

-- everything lent in the end: the values of the figure that code and n name where no row holds, and else what it held
abbrev pub second_left : SecondGiven → SecondLent → SecondLent
second_left given lent =
    of_named (figure_of given.code given.n) lent (λ f. stored (second_verdict given lent) (second_values f given) lent)

abbrev pub SecondPromise : SecondGiven → (entry : SecondLent) → (answer : SecondAnswer) → (exit : SecondLent) → Type 0
SecondPromise given entry answer exit = Promised (second_answer given entry) (second_left given entry) answer exit

-- of a figure that is named already: 2, 3, 4, 16, 8, 10, 9, 7
abbrev pub second_verdict_of : Figure → (tolerance : ℕ) → (angles rounds : List ℕ) → SineEntries → SecondLent → Verdict
second_verdict_of f tolerance angles rounds e lent = judged (second_rows f tolerance angles rounds e (second_slices angles rounds e lent))

abbrev pub SecondPromiseOf : Figure → (tolerance : ℕ) → (angles rounds : List ℕ) → SineEntries
    → (entry : SecondLent) → (answer : SecondAnswer) → (exit : SecondLent) → Type 0
SecondPromiseOf f tolerance angles rounds e entry answer exit =
    Promised (second_answer_for f e (second_verdict_of f tolerance angles rounds e entry))
    (stored (second_verdict_of f tolerance angles rounds e entry) (second_values_of f angles rounds e) entry) answer exit
