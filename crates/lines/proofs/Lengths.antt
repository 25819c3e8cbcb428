-- How long the texts are at most: each line by the digits of its numbers, and so many lines as the largest figure has. Assumes nothing.
use Rattle.std.specs.Prelude.{Bool, true, false, cond, ◌&&◌, List, [], ◌∷◌, ◌++◌, ℕ, ◌+◌, ◌*◌, ◌^◌, ◌≤◌, ◌<◌, T, ltb, leb, ℤ, pos, nat_abs}
use Rattle.std.specs.Prelude.{length}
use Rattle.vocabulary.specs.{le_trans, lt_of_lt_of_le, arith, ltb→lt, leb→le, lit<, length-append}
use Rattle.whole.specs.Lists.{listed}
use Rattle.whole.proofs.Computed.{and_left, and_right}
use Rattle.refusals.specs.{declared.Refusal.Refusal, Numbers.number_of, Numbers.place_of}
use Rattle.figures.specs.declared.Figure.{Figure}
use Rattle.figures.specs.Figure.{description, denominator, angle_count, condition_count, has_side}
use Rattle.figures.proofs.Figures.{each_figure, angle_bound, condition_bound}
use Rattle.text.specs.Text.{decimal, line, lines}
use Rattle.text.proofs.{Numbers.length_decimal, Numbers.length_positive, Lines.lines_append, Lines.length_line, Lines.length_lines}
use Rattle.lines.specs.Lines.{figure_word, denominator_word, w_word, s_word, determinant_word, condition_word, refused_word, numbers, figure_named, divisor_words, coefficients, first_figure, first_angle, first_condition, first_lines, first_text, second_figure, second_angle, second_condition, second_lines, second_text, refused_lines, refused_text, longest_text}

-- each of the first `count` numbers has at most so many digits
abbrev pub Digits : (most count : ℕ) → (ℕ → ℤ) → Type 0
Digits most count f = (i : ℕ) → i < count → nat_abs (f i) < 10 ^ most

-- ---- The figure's line

named_shortly : Figure → Bool
named_shortly f = ltb (description f).code 10 && (ltb (description f).n 10 && ltb (denominator f) 100)

module _ (f : Figure) where
  short : T (named_shortly f)
  unfolding named_shortly
  short = each_figure named_shortly tt f

  code_digits : length (decimal (pos (description f).code)) ≤ 1
  unfolding named_shortly
  code_digits =
      length_positive 1 (description f).code (lit< tt)
      (ltb→lt (description f).code 10 (and_left (ltb (description f).code 10) (ltb (description f).n 10 && ltb (denominator f) 100) short))

  others : T (ltb (description f).n 10 && ltb (denominator f) 100)
  unfolding named_shortly
  others = and_right (ltb (description f).code 10) (ltb (description f).n 10 && ltb (denominator f) 100) short

  n_digits : length (decimal (pos (description f).n)) ≤ 1
  n_digits = length_positive 1 (description f).n (lit< tt) (ltb→lt (description f).n 10 (and_left (ltb (description f).n 10) (ltb (denominator f) 100) others))

  denominator_digits : length (decimal (pos (denominator f))) ≤ 2
  denominator_digits = length_positive 2 (denominator f) (lit< tt) (ltb→lt (denominator f) 100 (and_right (ltb (description f).n 10) (ltb (denominator f) 100) others))

  -- of the first pass: figure 3 8 denominator 48
  first_figure_length : length (line (first_figure f)) ≤ 26
  unfolding figure_word denominator_word
  first_figure_length =
      let all = length_line figure_word (decimal (pos (description f).code) ∷ decimal (pos (description f).n) ∷ denominator_word ∷ decimal (pos (denominator f)) ∷ []) in
      omega (arith, all, code_digits, n_digits, denominator_digits)

-- ---- All lines

number_digits : (i : ℕ) → i < 24 → length (decimal (pos (i + 1))) ≤ 2
number_digits i h = length_positive 2 (i + 1) (lit< tt) (omega arith)

-- a figure's line, then a line for each angle and for each condition
text_length : (f : Figure) (figure : List (List ℕ)) (angle condition : ℕ → List (List ℕ)) (mostFigure most_angle mostCondition : ℕ)
    → length (line figure) ≤ mostFigure
    → ((i : ℕ) → i < angle_count f → length (line (angle i)) ≤ most_angle)
    → ((j : ℕ) → j < condition_count f → length (line (condition j)) ≤ mostCondition)
    → length (lines (figure ∷ (listed (angle_count f) angle ++ listed (condition_count f) condition))) ≤ mostFigure + (angle_count f * most_angle + condition_count f * mostCondition)
unfolding lines
text_length f figure angle condition mostFigure most_angle mostCondition figure-fits angle-fits condition-fits =
    let angles = listed (angle_count f) angle in
    let conditions = listed (condition_count f) condition in
    rw (length-append (line figure) (lines (angles ++ conditions)), lines_append angles conditions, length-append (lines angles) (lines conditions))
    (omega (arith, length_lines most_angle (angle_count f) angle angle-fits, length_lines mostCondition (condition_count f) condition condition-fits))

-- ---- Kind 1

module _ (f : Figure) (given rounds numerators rounded results misclosures rests : ℕ → ℤ)
    (given-fit : Digits 7 (angle_count f) given) (rounds_fit : Digits 3 (angle_count f) rounds) (numerators-fit : Digits 10 (angle_count f) numerators) (rounded-fit : Digits 10 (angle_count f) rounded)
    (results_fit : Digits 10 (angle_count f) results) (misclosures-fit : Digits 10 (condition_count f) misclosures) (rests-fit : Digits 10 (condition_count f) rests) where
  first_angle_length : (i : ℕ) → i < angle_count f → length (line (first_angle given rounds numerators rounded results i)) ≤ 53
  first_angle_length i h =
      let all = length_line (decimal (pos (i + 1))) (numbers (given i ∷ numerators i ∷ rounded i ∷ results i ∷ rounds i ∷ [])) in
      omega (
        arith,
        all,
        number_digits i (omega (arith, angle_bound f)),
        length_decimal 7 (given i) (lit< tt) (given-fit i h),
        length_decimal 10 (numerators i) (lit< tt) (numerators-fit i h),
        length_decimal 10 (rounded i) (lit< tt) (rounded-fit i h),
        length_decimal 10 (results i) (lit< tt) (results_fit i h),
        length_decimal 3 (rounds i) (lit< tt) (rounds_fit i h),
      )

  first_condition_length : (j : ℕ) → j < condition_count f → length (line (first_condition misclosures rests j)) ≤ 37
  unfolding condition_word
  first_condition_length j h =
      let all = length_line condition_word (numbers (pos (j + 1) ∷ misclosures j ∷ rests j ∷ [])) in
      omega (arith, all, number_digits j (omega (arith, condition_bound f)), length_decimal 10 (misclosures j) (lit< tt) (misclosures-fit j h), length_decimal 10 (rests j) (lit< tt) (rests-fit j h))

  pub first_length : length (first_text f given rounds numerators rounded results misclosures rests) ≤ longest_text
  unfolding first_text first_lines
  first_length =
      let all = text_length f (first_figure f) (first_angle given rounds numerators rounded results) (first_condition misclosures rests) 26 53 37 (first_figure_length f) first_angle_length first_condition_length in
      omega (arith, all, angle_bound f, condition_bound f)

-- ---- Kind 2

-- how many digits S has at most, and the determinant; and a numerator over the one and over the other
abbrev pub divisor_digits : Figure → ℕ
divisor_digits f = cond (has_side f) 37 18

abbrev pub numerator_digits : Figure → ℕ
numerator_digits f = cond (has_side f) 36 17

decimal_by_side : (side : Bool) (two one : ℕ) (z : ℤ) → 0 < two → 0 < one
    → nat_abs z < 10 ^ cond side two one → length (decimal z) ≤ cond side two one + 1
decimal_by_side true two one z some some' h = length_decimal two z some h
decimal_by_side false two one z some some' h = length_decimal one z some' h

module _ (f : Figure) (w sideW divisor : ℤ) (w-short : length (decimal w) ≤ 7) (sideW-short : length (decimal sideW) ≤ 7) where
  figure_by_side : (side : Bool) → length (decimal divisor) ≤ cond side 37 18 + 1
      → length (line (figure_named f (w_word ∷ decimal w ∷ (divisor_words side sideW ++ (decimal divisor ∷ []))))) ≤ cond side 80 43
  unfolding figure_word w_word s_word determinant_word
  figure_by_side true h =
      let named = numbers (pos (description f).code ∷ pos (description f).n ∷ []) in
      let all = length_line figure_word (named ++ (w_word ∷ decimal w ∷ decimal sideW ∷ determinant_word ∷ decimal divisor ∷ [])) in
      omega (arith, all, code_digits f, n_digits f)
  figure_by_side false h =
      let named = numbers (pos (description f).code ∷ pos (description f).n ∷ []) in
      let all = length_line figure_word (named ++ (w_word ∷ decimal w ∷ s_word ∷ decimal divisor ∷ [])) in
      omega (arith, all, code_digits f, n_digits f)

module _ (number given round reduced side_reduced numerator rounded result : ℤ)
    (number_short : length (decimal number) ≤ 2) (given-short : length (decimal given) ≤ 8) (round-short : length (decimal round) ≤ 4)
    (reduced-short : length (decimal reduced) ≤ 9) (sideReduced-short : length (decimal side_reduced) ≤ 9)
    (rounded-short : length (decimal rounded) ≤ 9) (result-short : length (decimal result) ≤ 8) where
  angle_by_side : (side : Bool) → length (decimal numerator) ≤ cond side 36 17 + 1
      → length (line (numbers (number ∷ given ∷ (coefficients side reduced side_reduced ++ (numerator ∷ rounded ∷ result ∷ round ∷ [])))))
      ≤ cond side 94 65
  angle_by_side true h =
      omega (arith, length_line (decimal number) (numbers (given ∷ reduced ∷ side_reduced ∷ numerator ∷ rounded ∷ result ∷ round ∷ [])))
  angle_by_side false h =
      omega (arith, length_line (decimal number) (numbers (given ∷ reduced ∷ numerator ∷ rounded ∷ result ∷ round ∷ [])))

-- a figure with a side condition has few angles for its long lines
angles_few : (f : Figure) → angle_count f ≤ cond (has_side f) 12 24
angles_few f = leb→le (angle_count f) (cond (has_side f) 12 24) (each_figure (λ g. leb (angle_count g) (cond (has_side g) 12 24)) tt f)

all_by_side : (side : Bool) (angles conditions : ℕ) → angles ≤ cond side 12 24 → conditions ≤ 9
    → cond side 80 43 + (angles * cond side 94 65 + conditions * 16) ≤ longest_text
all_by_side true angles conditions few some = omega arith
all_by_side false angles conditions few some = omega arith

module _ (f : Figure) (w sideW divisor : ℤ) (given rounds reduced side_reduced numerators rounded results rests : ℕ → ℤ)
    (w_Fits : nat_abs w < 10 ^ 6) (sideW-fits : nat_abs sideW < 10 ^ 6) (divisor-fits : nat_abs divisor < 10 ^ divisor_digits f)
    (given-fit : Digits 7 (angle_count f) given) (rounds_fit : Digits 3 (angle_count f) rounds) (reduced-fit : Digits 8 (angle_count f) reduced)
    (sideReduced-fit : Digits 8 (angle_count f) side_reduced) (numerators-fit : Digits (numerator_digits f) (angle_count f) numerators)
    (rounded-fit : Digits 8 (angle_count f) rounded) (results_fit : Digits 7 (angle_count f) results) (rests-fit : Digits 1 (condition_count f) rests) where
  second_figure_length : length (line (second_figure f w sideW divisor)) ≤ cond (has_side f) 80 43
  second_figure_length =
      figure_by_side f w sideW divisor (length_decimal 6 w (lit< tt) w_Fits) (length_decimal 6 sideW (lit< tt) sideW-fits) (has_side f)
      (decimal_by_side (has_side f) 37 18 divisor (lit< tt) (lit< tt) divisor-fits)

  second_angle_length : (i : ℕ) → i < angle_count f
      → length (line (second_angle f given rounds reduced side_reduced numerators rounded results i)) ≤ cond (has_side f) 94 65
  second_angle_length i h =
      angle_by_side (pos (i + 1)) (given i) (rounds i) (reduced i) (side_reduced i) (numerators i) (rounded i) (results i)
      (number_digits i (lt_of_lt_of_le h (angle_bound f)))
      (length_decimal 7 (given i) (lit< tt) (given-fit i h))
      (length_decimal 3 (rounds i) (lit< tt) (rounds_fit i h))
      (length_decimal 8 (reduced i) (lit< tt) (reduced-fit i h))
      (length_decimal 8 (side_reduced i) (lit< tt) (sideReduced-fit i h))
      (length_decimal 8 (rounded i) (lit< tt) (rounded-fit i h))
      (length_decimal 7 (results i) (lit< tt) (results_fit i h))
      (has_side f) (decimal_by_side (has_side f) 36 17 (numerators i) (lit< tt) (lit< tt) (numerators-fit i h))

  second_condition_length : (j : ℕ) → j < condition_count f → length (line (second_condition rests j)) ≤ 16
  unfolding condition_word
  second_condition_length j h =
      let all = length_line condition_word (numbers (pos (j + 1) ∷ rests j ∷ [])) in
      omega (arith, all, number_digits j (omega (arith, condition_bound f)), length_decimal 1 (rests j) (lit< tt) (rests-fit j h))

  pub second_length : length (second_text f w sideW divisor given rounds reduced side_reduced numerators rounded results rests) ≤ longest_text
  unfolding second_text second_lines
  second_length =
      le_trans
      (text_length f (second_figure f w sideW divisor) (second_angle f given rounds reduced side_reduced numerators rounded results)
      (second_condition rests) (cond (has_side f) 80 43) (cond (has_side f) 94 65) 16
      second_figure_length second_angle_length second_condition_length)
      (all_by_side (has_side f) (angle_count f) (condition_count f) (angles_few f) (condition_bound f))

-- ---- Turned back

number_of_digits : (refusal : Refusal) → number_of refusal < 100
number_of_digits Refusal.NoSuchFigure = lit< tt
number_of_digits Refusal.WrongLength = lit< tt
number_of_digits Refusal.LimitOrToleranceOutOfRange = lit< tt
number_of_digits (Refusal.AngleOutOfRange angle) = lit< tt
number_of_digits (Refusal.FixedAngleOutOfRange fixed) = lit< tt
number_of_digits (Refusal.MisclosureBeyondLimit condition) = lit< tt
number_of_digits (Refusal.ResultOutOfRange angle) = lit< tt
number_of_digits (Refusal.SineEntryOutOfRange angle) = lit< tt
number_of_digits Refusal.SineMisclosureBeyondTolerance = lit< tt
number_of_digits Refusal.SumOfSquaresIsZero = lit< tt
number_of_digits Refusal.NoSuchKind = lit< tt
number_of_digits Refusal.WrongSheetLength = lit< tt
number_of_digits Refusal.FillingBitSet = lit< tt
number_of_digits Refusal.FixedAnglesDoNotSum = lit< tt
number_of_digits Refusal.ChoiceDoesNotClose = lit< tt
number_of_digits (Refusal.RoundsOutOfRange angle) = lit< tt

pub refused_length : (refusal : Refusal) → place_of refusal < 100 → length (refused_text refusal) ≤ longest_text
unfolding refused_text refused_lines refused_word lines
refused_length refusal h =
    let all = length_line refused_word (numbers (pos (number_of refusal) ∷ pos (place_of refusal) ∷ [])) in
    omega (arith, all, length-append (line (refused_word ∷ numbers (pos (number_of refusal) ∷ pos (place_of refusal) ∷ []))) [], length_positive 2 (number_of refusal) (lit< tt) (number_of_digits refusal), length_positive 2 (place_of refusal) (lit< tt) h)
