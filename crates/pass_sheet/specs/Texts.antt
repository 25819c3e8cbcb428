-- The text of a worked sheet: document 01, "Sheets worked through". Its lines, or its refusal.
use Rattle.std.specs.Prelude.{List, ℕ, ℤ}
use Rattle.whole.specs.Sums.{vector, naturals}
use Rattle.lines.specs.Lines.{first_text, second_text, refused_text, wide_numbers}
use Rattle.figures.specs.declared.Figure.{Figure}
use Rattle.pass_rules.specs.Promises.{FirstLent, SecondLent}
use Rattle.pass_sheet.specs.Worked.{Outcome, First, Second, WorkedSheet, worked_of}

abbrev pub outcome_text : Outcome → WorkedSheet → List ℕ
outcome_text (First f) s =
    first_text f (naturals s.given) (naturals s.rounds) (vector s.numerators) (vector s.rounded) (naturals s.results) (vector s.misclosures) (vector s.rests)
outcome_text (Second f w sideW divisor) s =
    second_text f w sideW divisor (naturals s.given) (naturals s.rounds) (vector s.reduced) (vector s.side_reduced) (vector s.numerators) (vector s.rounded)
    (naturals s.results) (vector s.rests)
outcome_text (Outcome.Refused refusal) s = refused_text refusal

unfoldable pub text_of : WorkedSheet → List ℕ
text_of s = outcome_text s.outcome s

-- the text of any bytes
abbrev pub worked_text : List ℕ → List ℕ
worked_text sheet = text_of (worked_of sheet)

-- ---- the lines of what a pass left in the slices that it was lent

abbrev pub first_left_text : Figure → (angles : List ℕ) → FirstLent → List ℕ
first_left_text f angles left =
    first_text f (naturals angles) (naturals left.corrected_rounds) (vector left.numerators) (vector left.rounded) (naturals left.corrected)
    (vector left.misclosures) (vector left.rests)

abbrev pub second_left_text : Figure → (w sideW divisor : ℤ) → (angles : List ℕ) → SecondLent → List ℕ
second_left_text f w sideW divisor angles left =
    second_text f w sideW divisor (naturals angles) (naturals left.adjusted_rounds) (vector left.reduced) (vector left.side_reduced)
    (wide_numbers left.high_numerators left.low_numerators) (vector left.rounded) (naturals left.adjusted) (vector left.rests)
