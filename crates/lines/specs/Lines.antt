-- The lines that the program prints: document 01, "Sheets worked through", M-100 for a figure with a side condition, and M-106 for the
-- rounds, which end the line of each angle. A line is given by its parts, words and numbers; `lines` puts one space between the parts and
-- one line feed after each line. What an angle or a condition has is used by its index, counted from 0; its number is one more.
use Rattle.std.specs.Prelude.{Bool, true, false, List, [], ◌∷◌, ◌++◌, map, ℕ, ◌+◌, ℤ, pos, get_or}
use Rattle.whole.specs.{Lists.listed, Sums.vector}
use Rattle.wide_words.specs.Words.{joined}
use Rattle.refusals.specs.{declared.Refusal.Refusal, Numbers.number_of, Numbers.place_of}
use Rattle.figures.specs.declared.Figure.{Figure}
use Rattle.figures.specs.Figure.{description, denominator, angle_count, condition_count, has_side}
use Rattle.text.specs.Text.{decimal, lines}

-- ---- The words, by the codes of their letters

-- figure
unfoldable pub figure_word : List ℕ
figure_word = 102 ∷ 105 ∷ 103 ∷ 117 ∷ 114 ∷ 101 ∷ []

-- denominator
unfoldable pub denominator_word : List ℕ
denominator_word = 100 ∷ 101 ∷ 110 ∷ 111 ∷ 109 ∷ 105 ∷ 110 ∷ 97 ∷ 116 ∷ 111 ∷ 114 ∷ []

-- W
unfoldable pub w_word : List ℕ
w_word = 87 ∷ []

-- S
unfoldable pub s_word : List ℕ
s_word = 83 ∷ []

-- determinant
unfoldable pub determinant_word : List ℕ
determinant_word = 100 ∷ 101 ∷ 116 ∷ 101 ∷ 114 ∷ 109 ∷ 105 ∷ 110 ∷ 97 ∷ 110 ∷ 116 ∷ []

-- condition
unfoldable pub condition_word : List ℕ
condition_word = 99 ∷ 111 ∷ 110 ∷ 100 ∷ 105 ∷ 116 ∷ 105 ∷ 111 ∷ 110 ∷ []

-- refused
unfoldable pub refused_word : List ℕ
refused_word = 114 ∷ 101 ∷ 102 ∷ 117 ∷ 115 ∷ 101 ∷ 100 ∷ []

-- ---- The parts of a line

abbrev pub numbers : List ℤ → List (List ℕ)
numbers = map decimal

-- how a figure is named: its code and n
abbrev pub figure_named : Figure → List (List ℕ) → List (List ℕ)
figure_named f rest = figure_word ∷ decimal (pos (description f).code) ∷ decimal (pos (description f).n) ∷ rest

-- ---- Kind 1

abbrev pub first_figure : Figure → List (List ℕ)
first_figure f = figure_named f (denominator_word ∷ decimal (pos (denominator f)) ∷ [])

-- an angle's line holds its number, the given angle, the numerator of the exact correction, the rounded correction, the result and the
-- rounds
abbrev pub first_angle : (given rounds numerators rounded results : ℕ → ℤ) → ℕ → List (List ℕ)
first_angle given rounds numerators rounded results i =
    numbers (pos (i + 1) ∷ given i ∷ numerators i ∷ rounded i ∷ results i ∷ rounds i ∷ [])

-- a condition's line holds its number, the misclosure, and the rest
abbrev pub first_condition : (misclosures rests : ℕ → ℤ) → ℕ → List (List ℕ)
first_condition misclosures rests j = condition_word ∷ numbers (pos (j + 1) ∷ misclosures j ∷ rests j ∷ [])

unfoldable pub first_lines : Figure → (given rounds numerators rounded results misclosures rests : ℕ → ℤ) → List (List (List ℕ))
first_lines f given rounds numerators rounded results misclosures rests =
    first_figure f
    ∷ listed (angle_count f) (first_angle given rounds numerators rounded results)
    ++ listed (condition_count f) (first_condition misclosures rests)

unfoldable pub first_text : Figure → (given rounds numerators rounded results misclosures rests : ℕ → ℤ) → List ℕ
first_text f given rounds numerators rounded results misclosures rests = lines (first_lines f given rounds numerators rounded results misclosures rests)

-- ---- Kind 2

-- between W and the number that numerators stand over: the word S; of a side condition its misclosure, and then the word determinant
abbrev pub divisor_words : (side : Bool) → (sideW : ℤ) → List (List ℕ)
divisor_words false sideW = s_word ∷ []
divisor_words true sideW = decimal sideW ∷ determinant_word ∷ []

-- the figure's line holds W and S, or both misclosures and the determinant
abbrev pub second_figure : Figure → (w sideW divisor : ℤ) → List (List ℕ)
second_figure f w sideW divisor = figure_named f (w_word ∷ decimal w ∷ (divisor_words (has_side f) sideW ++ (decimal divisor ∷ [])))

-- A, and B of a side condition
abbrev pub coefficients : (side : Bool) → (a b : ℤ) → List ℤ
coefficients false a b = a ∷ []
coefficients true a b = a ∷ b ∷ []

-- an angle's line holds its number, the given angle, A or A and B, the numerator of the exact correction, the rounded correction, the
-- result and the rounds
abbrev pub second_angle : Figure → (given rounds reduced side_reduced numerators rounded results : ℕ → ℤ) → ℕ → List (List ℕ)
second_angle f given rounds reduced side_reduced numerators rounded results i =
    numbers (pos (i + 1) ∷ given i
    ∷ (coefficients (has_side f) (reduced i) (side_reduced i) ++ (numerators i ∷ rounded i ∷ results i ∷ rounds i ∷ [])))

-- a condition's line holds its number and the rest
abbrev pub second_condition : (rests : ℕ → ℤ) → ℕ → List (List ℕ)
second_condition rests j = condition_word ∷ numbers (pos (j + 1) ∷ rests j ∷ [])

unfoldable pub second_lines : Figure → (w sideW divisor : ℤ) → (given rounds reduced side_reduced numerators rounded results rests : ℕ → ℤ)
    → List (List (List ℕ))
second_lines f w sideW divisor given rounds reduced side_reduced numerators rounded results rests =
    second_figure f w sideW divisor
    ∷ listed (angle_count f) (second_angle f given rounds reduced side_reduced numerators rounded results)
    ++ listed (condition_count f) (second_condition rests)

unfoldable pub second_text : Figure → (w sideW divisor : ℤ) → (given rounds reduced side_reduced numerators rounded results rests : ℕ → ℤ) → List ℕ
second_text f w sideW divisor given rounds reduced side_reduced numerators rounded results rests =
    lines (second_lines f w sideW divisor given rounds reduced side_reduced numerators rounded results rests)

-- ---- Turned back: number and place, alone

unfoldable pub refused_lines : Refusal → List (List (List ℕ))
refused_lines refusal = (refused_word ∷ numbers (pos (number_of refusal) ∷ pos (place_of refusal) ∷ [])) ∷ []

unfoldable pub refused_text : Refusal → List ℕ
refused_text refusal = lines (refused_lines refusal)

-- ---- Numbers that do not fit one word

-- each held as two words, in a list of the high words and one of the low words
abbrev pub wide_numbers : (high : List ℤ) → (low : List ℕ) → ℕ → ℤ
wide_numbers high low i = joined (vector high i) (get_or low i 0)

-- ---- The room for any text

-- the text of any bytes has at most so many: `text_fits`, proofs/Longest.antt
abbrev pub longest_text : ℕ
longest_text = 2048
