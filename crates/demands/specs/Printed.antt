-- What is printed. The complaint that began this work: a controller printed corrections that did not cancel the misclosures above them.
-- Here the numbers are read off the lines of the text of any bytes, as a person reads them, and nothing else is known of them.
--
-- A line's parts are counted from 0: of a first pass, `figure 1 0 denominator 8`; `1 1620004 -12 -2 1620002 1`; `condition 1 4 0`. Of a
-- second, `figure 1 0 W 100 S 24315176`; `1 1620000 2049 -163920000 -7 1619993 1`; `condition 1 0`; with two sine conditions, M-100,
-- `figure 2 4 W 5 -3 determinant 7`, and on an angle's line B stands after A. An angle's line ends in its rounds, M-106. The line of
-- angle i, counted from 0, is line 1 + i, that of condition j follows the angles' lines.
use Rattle.std.specs.Prelude.{Some}
use Rattle.std.specs.Prelude.{ℕ, suc, ◌+◌, ◌<◌, Bool, true, false, List, [], ◌∷◌, ◌↔◌, ◌⊎◌, ◌≡◌, ℤ, pos, neg_ℤ, ◌+ℤ◌, ◌-ℤ◌, ◌*ℤ◌, get_or}
use Rattle.std.specs.Prelude.{take}
use Rattle.whole.specs.Sums.{squares}
use Rattle.refusals.specs.Order.{Answers}
use Rattle.figures.specs.{declared.Figure.Figure, Numerators.condition_sum, Numerators.horizon_sum}
use Rattle.figures.specs.Figure.{description, denominator, angle_count, condition_count, has_side}
use Rattle.text.specs.Text.{decimal, lines, read_number, read_lines}
use Rattle.lines.specs.Lines.{figure_word, denominator_word, w_word, s_word, determinant_word, refused_word}
use Rattle.pass_sheet.specs.Worked.{sheet_rows, rounds_held}
use Rattle.report.specs.Report.{ReportedPromise}
use Rattle.controller.specs.Promises.{TextLent, ReportPromise}
use Rattle.demands.specs.Demand2.{determinant_of, exact_of_two}

-- a part of a line of a text, and the number that it is
abbrev pub part : (text : List ℕ) → (line place : ℕ) → List ℕ
part text line place = get_or (get_or (read_lines text) line []) place []

abbrev pub number_on : (text : List ℕ) → (line place : ℕ) → ℤ
number_on text line place = read_number (part text line place)

-- what stands on the angles' lines, and on the conditions' lines
abbrev pub of_angle : (text : List ℕ) → (place : ℕ) → ℕ → ℤ
of_angle text place i = number_on text (suc i) place

abbrev pub of_condition : Figure → (text : List ℕ) → (place : ℕ) → ℕ → ℤ
of_condition f text place j = number_on text (suc (angle_count f + j)) place

-- the figure's line names the figure
pub record Names (f : Figure) (text : List ℕ) : Type 0 where
  pub word : part text 0 0 ≡ figure_word
  pub code : number_on text 0 1 ≡ pos (description f).code
  pub n : number_on text 0 2 ≡ pos (description f).n

-- a text of a first pass; `rounds` are those that the sheet has
pub record FirstPage (f : Figure) (rounds : List ℕ) (text : List ℕ) : Type 0 where
  pub names : Names f text
  pub denominator_word_is : part text 0 3 ≡ denominator_word
  pub denominator_is : number_on text 0 4 ≡ pos (denominator f)
  -- the numerators of a condition's angles sum to −D times the misclosure
  pub corrections_cancel : (j : ℕ) → j < condition_count f
      → condition_sum f (of_angle text 2) j ≡ neg_ℤ (number_on text 0 4) *ℤ of_condition f text 2 j
  -- of code 2: the angles at the inner point, with their numerators over D, sum to 360°; times D (M-101)
  pub horizon_closes : (description f).code ≡ 2
      → number_on text 0 4 *ℤ (horizon_sum f (of_angle text 1) -ℤ pos 12_960_000) +ℤ horizon_sum f (of_angle text 2) ≡ pos 0
  -- misclosure plus rounded corrections is the rest
  pub rests : (j : ℕ) → j < condition_count f → of_condition f text 2 j +ℤ condition_sum f (of_angle text 3) j ≡ of_condition f text 3 j
  -- the result is the given angle plus the rounded correction
  pub results : (i : ℕ) → i < angle_count f → of_angle text 1 i +ℤ of_angle text 3 i ≡ of_angle text 4 i
  -- the line ends in the angle's rounds (M-106)
  pub rounds_last : (i : ℕ) → i < angle_count f → of_angle text 5 i ≡ pos (get_or rounds i 0)

-- a text of a second pass: what every one says, whose numerators stand in a place of the angles' lines, the rounded corrections after
-- them, then the results, and the rounds last
pub record SecondPageFrom (f : Figure) (rounds : List ℕ) (text : List ℕ) (place : ℕ) : Type 0 where
  pub names : Names f text
  pub w_word_is : part text 0 3 ≡ w_word
  -- the numerators of each condition sum to 0
  pub corrections_close : (j : ℕ) → j < condition_count f → condition_sum f (of_angle text place) j ≡ pos 0
  -- and the rounded ones to its rest
  pub rests : (j : ℕ) → j < condition_count f → condition_sum f (of_angle text (1 + place)) j ≡ of_condition f text 2 j
  -- the result is the given angle plus the rounded correction
  pub results : (i : ℕ) → i < angle_count f → of_angle text 1 i +ℤ of_angle text (1 + place) i ≡ of_angle text (2 + place) i
  -- the line ends in the angle's rounds (M-106)
  pub rounds_last : (i : ℕ) → i < angle_count f → of_angle text (3 + place) i ≡ pos (get_or rounds i 0)

-- of a figure with one sine condition
pub record OneSinePage (f : Figure) (rounds : List ℕ) (text : List ℕ) : Type 0 where
  pub page : SecondPageFrom f rounds text 3
  pub s_word_is : part text 0 5 ≡ s_word
  -- S is the sum of A², with A as printed
  pub s_is : number_on text 0 6 ≡ squares (angle_count f) (of_angle text 2)
  -- each numerator is −100·D·A·W, with A and W as printed
  pub numerators : (i : ℕ) → i < angle_count f
      → of_angle text 3 i ≡ neg_ℤ (pos 100) *ℤ pos (denominator f) *ℤ of_angle text 2 i *ℤ number_on text 0 4

-- of a figure with two: M-100
pub record TwoSinesPage (f : Figure) (rounds : List ℕ) (text : List ℕ) : Type 0 where
  pub page : SecondPageFrom f rounds text 4
  pub determinant_word_is : part text 0 6 ≡ determinant_word
  -- the determinant is [AA][BB] − [AB]², with A and B as printed
  pub determinant_is : number_on text 0 7 ≡ determinant_of f (of_angle text 2) (of_angle text 3)
  -- each numerator is −100·D·(A·([BB]·Wa − [AB]·Wb) + B·([AA]·Wb − [AB]·Wa)), with A, B and both W as printed
  pub numerators : (i : ℕ) → i < angle_count f
      → of_angle text 4 i ≡ exact_of_two f (of_angle text 2) (of_angle text 3) (number_on text 0 4) (number_on text 0 5) i

abbrev pub SinePage : (side : Bool) → Figure → (rounds text : List ℕ) → Type 0
SinePage false f rounds text = OneSinePage f rounds text
SinePage true f rounds text = TwoSinesPage f rounds text

abbrev pub SecondPage : Figure → (rounds text : List ℕ) → Type 0
SecondPage f rounds text = SinePage (has_side f) f rounds text

-- `refused 6 1`, number and place, alone
abbrev pub refused_line : (k p : ℕ) → List ℕ
refused_line k p = lines ((refused_word ∷ decimal (pos k) ∷ decimal (pos p) ∷ []) ∷ [])

-- the text of a sheet is a page of a first or of a second pass, where no row of its order holds; and else its refusal
pub record Printed (sheet text : List ℕ) : Type 0 where
  pub page : ((f : Figure) × FirstPage f (rounds_held sheet) text)
      ⊎ (((f : Figure) × SecondPage f (rounds_held sheet) text) ⊎ ((k : ℕ) × (p : ℕ) × (text ≡ refused_line k p)))
  -- turned back with number k at place p if and only if the order of reader and pass says so
  pub refused : (k p : ℕ) → (k ≡ 0 → ⊥) → (text ≡ refused_line k p) ↔ Answers (sheet_rows sheet) k p

-- ---- of whatever the program, and C, write

abbrev pub Report : Type 0
Report = (sheet entry exit : List ℕ) (count : ℕ) → ReportedPromise sheet entry (Some count) exit → Printed sheet (take count exit)

abbrev pub ReportC : Type 0
ReportC =
    (sheet : List ℕ) (entry exit : TextLent) → ReportPromise sheet entry 0 exit
    → (count : ℕ) → exit.written ≡ count ∷ [] → Printed sheet (take count exit.text)
