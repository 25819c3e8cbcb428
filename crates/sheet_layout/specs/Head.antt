-- The head of a sheet: document 01, "Packed sheets" and "Numbers given when a sheet is turned back". What its numbers name, and the rows
-- that reader and writer begin with.
use Rattle.refusals.specs.Numbers.{Verdict}
use Rattle.std.specs.Prelude.{ℕ, cond, List, [], ◌∷◌, map, eqb, length, Option, Some, None, Result, Ok, Err}
use Rattle.refusals.specs.{declared.Refusal.Refusal, Numbers.Told, Numbers.told, Numbers.refusal_told}
use Rattle.refusals.specs.{Order.Row, Order.judged}
use Rattle.refusals.specs.Table.{kind_row, figure_row, sheet_short_row}
use Rattle.figures.specs.declared.Figure.{Figure}
use Rattle.figures.specs.Figure.{figure_of, figure_names}
use Rattle.sheet_layout.specs.{declared.Kind.Kind, declared.head.SheetHead.SheetHead, Kinds.all_kinds, Kinds.number_of_kind}
use Rattle.sheet_layout.specs.{Layout.the_kind, Layout.the_code, Layout.the_n, Layout.head, Layout.held}

-- ---- what a kind's number, a code and an n name

abbrev pub kind_among : List Kind → ℕ → Option Kind
kind_among [] number = None
kind_among (kind ∷ others) number = cond (eqb number (number_of_kind kind)) (Some kind) (kind_among others number)

abbrev pub kind_of : ℕ → Option Kind
kind_of number = kind_among all_kinds number

abbrev pub kind_numbers : List (List ℕ)
kind_numbers = map (λ kind. number_of_kind kind ∷ []) all_kinds

-- what a look at a head answers: the kind and the figure, or the refusal
abbrev pub Look : Type 0
Look = Result SheetHead Refusal

abbrev pub headed : Kind → Figure → Look
headed kind f = Ok (record { kind = kind; figure = f })

abbrev pub head_named : Option Kind → Option Figure → Look
head_named (Some kind) (Some f) = headed kind f
head_named (Some kind) None = Err Refusal.NoSuchFigure
head_named None figure = Err Refusal.NoSuchKind

-- the kind and the figure that numbers name, or the refusal: 11, 1
unfoldable pub head_of : (kind code n : ℕ) → Look
head_of kind code n = head_named (kind_of kind) (figure_of code n)

-- what a head has, where it names a kind and a figure
abbrev pub of_head : {A : Type 0} → Look → (none : A) → (Kind → Figure → A) → A
of_head (Ok head) none some = some head.kind head.figure
of_head (Err refusal) none some = none

-- 11, 1
abbrev pub name_rows : (kind code n : ℕ) → List Row
name_rows kind code n = kind_row kind kind_numbers ∷ figure_row code n figure_names ∷ []

-- ---- a look at a sheet: 12 if under two bytes, then 11, 1

abbrev pub kind_number_in : List ℕ → ℕ
kind_number_in sheet = held head sheet the_kind

abbrev pub code_in : List ℕ → ℕ
code_in sheet = held head sheet the_code

abbrev pub n_in : List ℕ → ℕ
n_in sheet = held head sheet the_n

unfoldable pub head_rows : List ℕ → List Row
head_rows sheet = sheet_short_row 2 (length sheet) ∷ name_rows (kind_number_in sheet) (code_in sheet) (n_in sheet)

abbrev pub look_after : Verdict → Look → Look
look_after (Ok tt) found = found
look_after (Err refusal) found = Err refusal

-- the head of a sheet, or the refusal that the reader gives up to there
unfoldable pub look_of : List ℕ → Look
look_of sheet = look_after (judged (head_rows sheet)) (head_of (kind_number_in sheet) (code_in sheet) (n_in sheet))

-- its number and place
abbrev pub look_told : Look → Told
look_told (Ok _) = told 0 0
look_told (Err refusal) = refusal_told refusal
