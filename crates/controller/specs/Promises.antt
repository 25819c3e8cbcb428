-- What the operations promise to C: what the passes, `sheet_rules` and `report` promise, with the answer as one number, and W, S or the
-- determinant, what stands in a head, and the size of a text in slices of their own.
use Rattle.std.specs.Prelude.{ℕ, ◌/◌, ◌%◌, ◌^◌, List, [], ◌∷◌, ◌++◌, map, ℤ, nat_abs, length, drop}
use Rattle.refusals.specs.{Numbers.verdict_told, Order.Row, Order.row, Order.judged, Promise.Promised, Promise.stored, Questions.less}
use Rattle.refusals.specs.Table.{lengths_row}
use Rattle.figures.specs.{declared.Figure.Figure, Figure.description, Figure.condition_count, Figure.figure_of, Figure.of_named}
use Rattle.sheet_layout.specs.{declared.Kind.Kind, Kinds.number_of_kind, Layout.lengths_of, Head.head_rows, Head.look_of, Head.of_head}
use Rattle.sheet_rules.specs.{Sheet.Values, Sheet.values_read, Judging.reader_rows, Judging.writer_rows, Judging.written_of}
use Rattle.sheet_rules.specs.Lent.{Slices, slices_of, lengths_lent}
use Rattle.pass_rules.specs.SecondPass.{SineEntries, misclosure_in, divisor, second_pass_rows}
use Rattle.pass_rules.specs.Promises.{FirstGiven, FirstLent, first_rows_of, first_left, SecondGiven, SecondLent, second_lengths_lent, second_values}
use Rattle.closing.specs.Promises.{closing_rows, closing_left}
use Rattle.report.specs.Report.{report_text}
use Rattle.controller.specs.Answer.{answer_number, lengths_with}

-- what an order answers C
abbrev pub answer_by : List Row → ℕ
answer_by rows = answer_number (verdict_told (judged rows))

-- ---- a look: kind, code, n, and how many angles, fixed angles, log-sines, conditions, log sides and rounds

abbrev pub look_head : Kind → Figure → List ℕ
look_head kind f =
    number_of_kind kind ∷ (description f).code ∷ (description f).n
    ∷ (lengths_of kind f).angles ∷ (lengths_of kind f).fixed ∷ (lengths_of kind f).log_sines ∷ condition_count f
    ∷ (lengths_of kind f).log_sides ∷ (lengths_of kind f).rounds ∷ []

-- 12 if under two bytes, 11, 1, 2: `head` has nine values
abbrev pub look_rows : (sheet head : List ℕ) → List Row
look_rows sheet head = head_rows sheet ++ (lengths_row (length head ∷ []) (9 ∷ []) ∷ [])

abbrev pub look_left : (sheet head : List ℕ) → List ℕ
look_left sheet head = of_head (look_of sheet) head (λ kind f. stored (judged (look_rows sheet head)) (look_head kind f) head)

abbrev pub LookPromise : (sheet entry : List ℕ) → (answer : ℕ) → (exit : List ℕ) → Type 0
LookPromise sheet entry answer exit = Promised (answer_by (look_rows sheet entry)) (look_left sheet entry) answer exit

-- ---- the reader: kind, code, n, and L or e as packed, and the values

pub record ReadLent : Type 0 where
  pub head : List ℕ
  pub values : Slices

abbrev pub read_lent : (head : List ℕ) → Slices → ReadLent
read_lent head values = record { head = head; values = values }

-- the reader's rows: `head` has four values
abbrev pub read_rows : (sheet : List ℕ) → ReadLent → List Row
read_rows sheet lent = reader_rows sheet (lengths_with (length lent.head) 4 (lengths_lent lent.values))

abbrev pub read_head : Kind → Figure → Values → List ℕ
read_head kind f v = number_of_kind kind ∷ (description f).code ∷ (description f).n ∷ v.limit_or_tolerance ∷ []

abbrev pub read_values : Kind → Figure → (sheet : List ℕ) → ReadLent
read_values kind f sheet = read_lent (read_head kind f (values_read kind f sheet)) (slices_of (values_read kind f sheet))

abbrev pub read_left : (sheet : List ℕ) → ReadLent → ReadLent
read_left sheet lent = of_head (look_of sheet) lent (λ kind f. stored (judged (read_rows sheet lent)) (read_values kind f sheet) lent)

abbrev pub ReadPromise : (sheet : List ℕ) → (entry : ReadLent) → (answer : ℕ) → (exit : ReadLent) → Type 0
ReadPromise sheet entry answer exit = Promised (answer_by (read_rows sheet entry)) (read_left sheet entry) answer exit

-- ---- the writer

abbrev pub WritePromise : (kind code n : ℕ) → Values → (entry : List ℕ) → (answer : ℕ) → (exit : List ℕ) → Type 0
WritePromise kind code n v entry answer exit =
    Promised (answer_by (writer_rows kind code n v (length entry))) (written_of kind code n v entry) answer exit

-- ---- the first pass

abbrev pub FirstPassPromise : FirstGiven → (entry : FirstLent) → (answer : ℕ) → (exit : FirstLent) → Type 0
FirstPassPromise given entry answer exit = Promised (answer_by (first_rows_of given entry)) (first_left given entry) answer exit

-- ---- a choice that closes (document 02, M-104); its check promises its answer alone, `answer_by` of `check_rows`

abbrev pub ClosingPassPromise : FirstGiven → (entry : List ℤ) → (answer : ℕ) → (exit : List ℤ) → Type 0
ClosingPassPromise given entry answer exit = Promised (answer_by (closing_rows given entry)) (closing_left given entry) answer exit

-- ---- the second pass: W of each sine condition, S or the determinant as two words, and the values

pub record SumsLent : Type 0 where
  pub misclosures : List ℤ
  pub divisor : List ℕ
  pub values : SecondLent

abbrev pub sums_lent : (misclosures : List ℤ) → (divisor : List ℕ) → SecondLent → SumsLent
sums_lent misclosures divisor values = record { misclosures = misclosures; divisor = divisor; values = values }

-- how many sine conditions the figure has that code and n name
abbrev pub sine_count : (code n : ℕ) → ℕ
sine_count code n = of_named (figure_of code n) 0 (λ f. length (description f).sines)

-- the lengths for number 2: `sine_misclosures` has a value for each sine condition, `divisor` has two
abbrev pub sums_lengths : SecondGiven → SumsLent → List ℕ
sums_lengths given lent =
    lengths_with (length lent.misclosures) (sine_count given.code given.n)
    (lengths_with (length lent.divisor) 2 (second_lengths_lent given lent.values))

-- the rows of the second pass
abbrev pub sums_rows : SecondGiven → SumsLent → List Row
sums_rows given lent =
    second_pass_rows given.code given.n given.tolerance given.angles given.rounds given.entries (sums_lengths given lent)

-- W of the pole and, where the figure has it, of the side condition
abbrev pub sine_misclosures_of : Figure → SineEntries → List ℤ
sine_misclosures_of f e = map (λ c. misclosure_in f c e) (description f).sines

-- S or the determinant is high·2^64 + low
abbrev pub divisor_words_of : Figure → SineEntries → List ℕ
divisor_words_of f e = nat_abs (divisor f e) / 2 ^ 64 ∷ nat_abs (divisor f e) % 2 ^ 64 ∷ []

abbrev pub sums_values : Figure → SecondGiven → SumsLent
sums_values f given = sums_lent (sine_misclosures_of f given.entries) (divisor_words_of f given.entries) (second_values f given)

abbrev pub sums_left : SecondGiven → SumsLent → SumsLent
sums_left given lent =
    of_named (figure_of given.code given.n) lent (λ f. stored (judged (sums_rows given lent)) (sums_values f given) lent)

abbrev pub SecondPassPromise : SecondGiven → (entry : SumsLent) → (answer : ℕ) → (exit : SumsLent) → Type 0
SecondPassPromise given entry answer exit = Promised (answer_by (sums_rows given entry)) (sums_left given entry) answer exit

-- ---- a sheet's text, and its size. A refused sheet has its text too, so that number 2 is the only one

pub record TextLent : Type 0 where
  pub text : List ℕ
  pub written : List ℕ

abbrev pub text_lent : (text written : List ℕ) → TextLent
text_lent text written = record { text = text; written = written }

-- `written` has one value, and the text has room
abbrev pub report_rows : (sheet : List ℕ) → TextLent → List Row
report_rows sheet lent =
    lengths_row (length lent.written ∷ []) (1 ∷ []) ∷ row 2 (less (length lent.text) (length (report_text sheet))) ∷ []

-- the text from the start of what is lent, and what lies past it as it was
abbrev pub text_laid : (sheet text : List ℕ) → List ℕ
text_laid sheet text = report_text sheet ++ drop (length (report_text sheet)) text

abbrev pub report_left : (sheet : List ℕ) → TextLent → TextLent
report_left sheet lent =
    stored (judged (report_rows sheet lent)) (text_lent (text_laid sheet lent.text) (length (report_text sheet) ∷ [])) lent

abbrev pub ReportPromise : (sheet : List ℕ) → (entry : TextLent) → (answer : ℕ) → (exit : TextLent) → Type 0
ReportPromise sheet entry answer exit = Promised (answer_by (report_rows sheet entry)) (report_left sheet entry) answer exit
