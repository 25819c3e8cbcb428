-- The second pass: document 01, "The two passes", and document 02, M-100 for the figure that has two sine conditions and M-106 for the
-- rounds of each angle. Angles and conditions are used by their indices, counted from 0.
use Rattle.std.specs.Prelude.{Result, Ok, Err}
use Rattle.refusals.specs.Numbers.{Verdict}
use Rattle.std.specs.Prelude.{ℕ, ◌/◌, ◌%◌, ◌^◌, cond, List, [], ◌∷◌, ◌++◌, ℤ, pos, neg_ℤ, nat_abs, ◌+ℤ◌, ◌-ℤ◌, ◌*ℤ◌, length}
use Rattle.whole.specs.{Lists.listed, Quotient.rounded_quotient, Sums.dot, Sums.squares, Sums.vector}
use Rattle.wide_words.specs.Words.{high_word, low_word}
use Rattle.pass_pair.specs.Pair.{pair_numerator}
use Rattle.refusals.specs.{declared.Refusal.Refusal, Numbers.Told, Numbers.told, Numbers.refusal_told, Order.Row, Order.judged}
use Rattle.refusals.specs.Ranges.{most_tolerance, most_rounds}
use Rattle.refusals.specs.Table.{figure_row, lengths_row, limit_or_tolerance_row, angles_row, rounds_row, results_row, sine_entries_row, sine_misclosure_row, sum_of_squares_row}
use Rattle.figures.specs.{declared.Figure.Figure, Numerators.condition_sum, Numerators.reduced_coefficient}
use Rattle.figures.specs.Figure.{SineCondition, denominator, angle_count, condition_count, side_count, pole, side, has_side, figure_of, figure_names, of_named}
use Rattle.pass_rules.specs.{declared.second.SineAnswer.SineAnswer, Pass.in_force, Pass.given}

-- the sine tolerance e: 0 stands for 10
abbrev pub tolerance_of : ℕ → ℕ
tolerance_of = in_force 10

-- what a second pass is given beside the angles: their log-sines and sine differences, and the logarithms of known sides
pub record SineEntries : Type 0 where
  pub log_sines : List ℕ
  pub differences : List ℤ
  pub log_sides : List ℕ

abbrev pub sine_entries : (log_sines : List ℕ) → (differences : List ℤ) → (log_sides : List ℕ) → SineEntries
sine_entries log_sines differences log_sides = record { log_sines = log_sines; differences = differences; log_sides = log_sides }

-- ---- a sine condition: document 01, "The two passes", second pass

-- d is the signed sine difference
unfoldable pub signed_in : SineCondition → SineEntries → ℕ → ℤ
signed_in c e i = vector c.signs i *ℤ vector e.differences i

-- the reduced coefficient of an angle: D·d plus the first-pass numerator for misclosures equal to each condition's sum of d
unfoldable pub reduced_in : Figure → SineCondition → SineEntries → ℕ → ℤ
reduced_in f c e i = reduced_coefficient f (signed_in c e) i

-- W is the signed sum of log-sines, with the known log sides that stand in the condition
unfoldable pub misclosure_in : Figure → SineCondition → SineEntries → ℤ
misclosure_in f c e =
    dot (angle_count f) (vector c.signs) (given e.log_sines) +ℤ dot (length c.sides) (vector c.sides) (given e.log_sides)

-- the sum of d², for number 9: an angle with sign 0 counts for nothing in it
unfoldable pub difference_squares_in : Figure → SineCondition → SineEntries → ℤ
difference_squares_in f c e = squares (angle_count f) (signed_in c e)

-- ---- the pole, which every figure has, and the side condition: A and B, the two misclosures, and the sums of products [AA], [BB], [AB]

abbrev pub second_reduced : Figure → SineEntries → ℕ → ℤ
second_reduced f e = reduced_in f (pole f) e

abbrev pub side_reduced : Figure → SineEntries → ℕ → ℤ
side_reduced f e = reduced_in f (side f) e

abbrev pub sine_misclosure : Figure → SineEntries → ℤ
sine_misclosure f e = misclosure_in f (pole f) e

abbrev pub side_misclosure : Figure → SineEntries → ℤ
side_misclosure f e = misclosure_in f (side f) e

-- S is the sum of A²
unfoldable pub sum_of_squares : Figure → SineEntries → ℤ
sum_of_squares f e = squares (angle_count f) (second_reduced f e)

unfoldable pub side_squares : Figure → SineEntries → ℤ
side_squares f e = squares (angle_count f) (side_reduced f e)

unfoldable pub shared_products : Figure → SineEntries → ℤ
shared_products f e = dot (angle_count f) (second_reduced f e) (side_reduced f e)

-- ---- the exact corrections

-- what they are taken over: S; with two sine conditions the determinant [AA][BB] − [AB]²
unfoldable pub divisor : Figure → SineEntries → ℤ
divisor f e = cond (has_side f) (sum_of_squares f e *ℤ side_squares f e -ℤ shared_products f e *ℤ shared_products f e) (sum_of_squares f e)

-- −100·D, by which a correction in tenths is taken
abbrev pub tenths_factor : Figure → ℤ
tenths_factor f = neg_ℤ (pos 100) *ℤ pos (denominator f)

-- the exact correction in tenths is −100·D·A·W / S; this is its numerator
abbrev pub numerator_of_one : Figure → SineEntries → ℕ → ℤ
numerator_of_one f e i = tenths_factor f *ℤ second_reduced f e i *ℤ sine_misclosure f e

-- with two sine conditions −100·D·(A·([BB]·Wa − [AB]·Wb) + B·([AA]·Wb − [AB]·Wa)) over the determinant
abbrev pub numerator_of_two : Figure → SineEntries → ℕ → ℤ
numerator_of_two f e i =
    pair_numerator (tenths_factor f) (sum_of_squares f e) (shared_products f e) (side_squares f e) (sine_misclosure f e) (side_misclosure f e)
    (second_reduced f e i) (side_reduced f e i)

unfoldable pub second_numerator : Figure → SineEntries → ℕ → ℤ
second_numerator f e i = cond (has_side f) (numerator_of_two f e i) (numerator_of_one f e i)

-- rounding as in the first pass
unfoldable pub second_rounded : Figure → SineEntries → ℕ → ℤ
second_rounded f e i = rounded_quotient (second_numerator f e i) (nat_abs (divisor f e))

-- the adjusted angle is given angle plus rounded
unfoldable pub second_adjusted : Figure → (angles : List ℕ) → SineEntries → ℕ → ℤ
second_adjusted f angles e i = given angles i +ℤ second_rounded f e i

-- the rest of a condition is the sum of rounded second corrections in it
unfoldable pub second_rest : Figure → SineEntries → ℕ → ℤ
second_rest f e j = condition_sum f (second_rounded f e) j

-- ---- what is stored, in the order of the numbers of angles and conditions

abbrev pub reduced_of : Figure → SineEntries → List ℤ
reduced_of f e = listed (angle_count f) (second_reduced f e)

-- B, where the figure has a side condition
abbrev pub side_reduced_count : Figure → ℕ
side_reduced_count f = cond (has_side f) (angle_count f) 0

abbrev pub side_reduced_of : Figure → SineEntries → List ℤ
side_reduced_of f e = listed (side_reduced_count f) (side_reduced f e)

-- a numerator is stored as two words, high·2^64 + low
abbrev pub high_numerators_of : Figure → SineEntries → List ℤ
high_numerators_of f e = listed (angle_count f) (λ i. high_word (second_numerator f e i))

abbrev pub low_numerators_of : Figure → SineEntries → List ℕ
low_numerators_of f e = listed (angle_count f) (λ i. low_word (second_numerator f e i))

abbrev pub second_rounded_of : Figure → SineEntries → List ℤ
second_rounded_of f e = listed (angle_count f) (second_rounded f e)

-- an adjusted angle that is stored is within range, so it is its own magnitude
abbrev pub adjusted_of : Figure → (angles : List ℕ) → SineEntries → List ℕ
adjusted_of f angles e = listed (angle_count f) (λ i. nat_abs (second_adjusted f angles e i))

abbrev pub second_rests_of : Figure → SineEntries → List ℤ
second_rests_of f e = listed (condition_count f) (second_rest f e)

-- ---- the order: 1, 2, 3, 4, 16, 8, 10, 9, 7

-- number 2: the lengths of reduced coefficients A and B, high and low words of numerators, rounded corrections, adjusted angles, their
-- rounds, and rests
abbrev pub second_result_lengths : Figure → List ℕ
second_result_lengths f =
    angle_count f ∷ side_reduced_count f ∷ angle_count f ∷ angle_count f ∷ angle_count f ∷ angle_count f ∷ angle_count f ∷ condition_count f ∷ []

-- and before them those of angles, their rounds, log-sines, differences and log sides
abbrev pub second_lengths : Figure → List ℕ
second_lengths f = angle_count f ∷ angle_count f ∷ angle_count f ∷ angle_count f ∷ side_count f ∷ second_result_lengths f

-- 2, 3, 4, 16, 8: what can be said before any work; a known side has its place after the angles
abbrev pub entry_rows : Figure → (tolerance : ℕ) → (angles rounds : List ℕ) → SineEntries → (lent : List ℕ) → List Row
entry_rows f tolerance angles rounds e lent =
    lengths_row lent (second_lengths f)
    ∷ limit_or_tolerance_row most_tolerance tolerance
    ∷ angles_row angles
    ∷ rounds_row most_rounds rounds
    ∷ sine_entries_row (e.log_sines ++ e.log_sides) e.differences
    ∷ []

-- 10, 9: what S or the determinant, and W and the sum of d² of each sine condition say; where a figure has only one, both are 0 for the
-- other and 9 passes
abbrev pub sine_rows : (tolerance : ℕ) → (divisor w differenceSquares sideW sideDifferenceSquares : ℤ) → List Row
sine_rows tolerance divisor w differenceSquares sideW sideDifferenceSquares =
    sum_of_squares_row divisor
    ∷ sine_misclosure_row (tolerance_of tolerance) w differenceSquares
    ∷ sine_misclosure_row (tolerance_of tolerance) sideW sideDifferenceSquares
    ∷ []

abbrev pub sine_rows_of : Figure → (tolerance : ℕ) → SineEntries → List Row
sine_rows_of f tolerance e =
    sine_rows tolerance (divisor f e) (sine_misclosure f e) (difference_squares_in f (pole f) e) (side_misclosure f e) (difference_squares_in f (side f) e)

-- of a figure: 2, 3, 4, 16, 8, 10, 9, 7
unfoldable pub second_rows : Figure → (tolerance : ℕ) → (angles rounds : List ℕ) → SineEntries → (lent : List ℕ) → List Row
second_rows f tolerance angles rounds e lent =
    entry_rows f tolerance angles rounds e lent
    ++ sine_rows_of f tolerance e
    ++ (results_row (listed (angle_count f) (second_adjusted f angles e)) ∷ [])

-- 1, and then those of the figure that code and n name
unfoldable pub second_pass_rows : (code n tolerance : ℕ) → (angles rounds : List ℕ) → SineEntries → (lent : List ℕ) → List Row
second_pass_rows code n tolerance angles rounds e lent =
    figure_row code n figure_names ∷ of_named (figure_of code n) [] (λ f. second_rows f tolerance angles rounds e lent)

unfoldable pub second_pass_verdict : (code n tolerance : ℕ) → (angles rounds : List ℕ) → SineEntries → (lent : List ℕ) → Verdict
second_pass_verdict code n tolerance angles rounds e lent = judged (second_pass_rows code n tolerance angles rounds e lent)

-- ---- what is answered: both misclosures, 0 for a condition that the figure has not, and S or the determinant as two words; or the refusal

abbrev pub SecondAnswer : Type 0
SecondAnswer = Result SineAnswer Refusal

abbrev pub done_with : (w sideW : ℤ) → (high low : ℕ) → SecondAnswer
done_with w sideW high low = Ok (record { misclosure = w; side_misclosure = sideW; divisor_high = high; divisor_low = low })

abbrev pub second_answer_of : Verdict → (w sideW divisor : ℤ) → SecondAnswer
second_answer_of (Ok tt) w sideW divisor = done_with w sideW (nat_abs divisor / 2 ^ 64) (nat_abs divisor % 2 ^ 64)
second_answer_of (Err refusal) w sideW divisor = Err refusal

abbrev pub second_answer_for : Figure → SineEntries → Verdict → SecondAnswer
second_answer_for f e verdict = second_answer_of verdict (sine_misclosure f e) (side_misclosure f e) (divisor f e)

unfoldable pub second_pass_answer : (code n tolerance : ℕ) → (angles rounds : List ℕ) → SineEntries → (lent : List ℕ) → SecondAnswer
second_pass_answer code n tolerance angles rounds e lent =
    of_named (figure_of code n) (Err Refusal.NoSuchFigure) (λ f. second_answer_for f e (second_pass_verdict code n tolerance angles rounds e lent))

-- its number and place
abbrev pub second_told : SecondAnswer → Told
second_told (Ok sums) = told 0 0
second_told (Err refusal) = refusal_told refusal
