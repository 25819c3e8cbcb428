-- Demand 1. "Any sheet, any numbers, any lengths: the module ends with an answer or with a refusal number and place fixed by document 01.
-- A refusal is given only in its stated case, and changes no lent buffer. No caller is trusted to have looked first."
--
-- Said of every public operation, for whatever is given and lent, of every answer and every exit that its promise allows, and of nothing
-- else. The order of an operation is one list of rows; `Answers`, `NoneHolds` and `Stands` say what a list of rows answers
-- (refusals/specs/Order.antt), and each row stands once in refusals/specs/Table.antt. That every call ends is what the checker proves of
-- every function.
use Rattle.pass_rules.specs.SecondPass.{SecondAnswer}
use Rattle.sheet_layout.specs.Head.{Look}
use Rattle.sheet_rules.specs.Sheet.{Reading}
use Rattle.refusals.specs.Numbers.{Verdict}
use Rattle.std.specs.Prelude.{ℕ, List, ◌↔◌, ◌⊎◌, ◌≡◌, ℤ, length}
use Rattle.refusals.specs.{Numbers.Told, Numbers.told, Numbers.verdict_told}
use Rattle.refusals.specs.Order.{Row, Answers, NoneHolds, Stands}
use Rattle.sheet_layout.specs.{Head.head_rows, Head.look_of, Head.look_told}
use Rattle.sheet_rules.specs.{Sheet.Values, Judging.reader_rows, Judging.reading_told, Judging.writer_rows}
use Rattle.sheet_rules.specs.Promises.{ReaderPromise, WriterPromise}
use Rattle.sheet_rules.specs.Lent.{Slices, lengths_lent}
use Rattle.pass_rules.specs.SecondPass.{second_told}
use Rattle.pass_rules.specs.Promises.{FirstGiven, FirstLent, first_rows_of, FirstPromise, SecondGiven, SecondLent, second_rows_of, SecondPromise}
use Rattle.closing.specs.Promises.{closing_rows, ClosingPromise, check_rows, check_answer}
use Rattle.controller.specs.Answer.{answer_told}
use Rattle.controller.specs.Promises.{answer_by, look_rows, LookPromise, ReadLent, read_rows, ReadPromise, WritePromise, FirstPassPromise, ClosingPassPromise, SumsLent, sums_rows, SecondPassPromise, TextLent, report_rows, ReportPromise}

-- an answer is the one that the order of its operation gives, and a refusal leaves everything lent as it was
pub record ByTheTable {R L : Type 0} (tell : R → Told) (order : List Row) (answer : R) (entry exit : L) : Type 0 where
  -- number k at place p is answered if and only if its row holds at p, at no lower place, and no row before it holds anywhere
  pub answers : (k p : ℕ) → (tell answer ≡ told k p) ↔ Answers order k p
  -- it is done, 0 at 0, if and only if no row holds
  pub done : (tell answer ≡ told 0 0) ↔ NoneHolds order
  -- a number that does not stand in the order is never given
  pub only_these : (k p : ℕ) → tell answer ≡ told k p → (k ≡ 0) ⊎ Stands k order
  -- nothing lent changes
  pub unchanged : (tell answer ≡ told 0 0 → ⊥) → exit ≡ entry

-- ---- the head of a sheet, the reader, the writer

abbrev pub LookAt : Type 0
LookAt = (sheet : List ℕ) (answer : Look) → answer ≡ look_of sheet → ByTheTable look_told (head_rows sheet) answer (tt {0}) (tt {0})

abbrev pub ReadSheet : Type 0
ReadSheet =
    (sheet : List ℕ) (entry exit : Slices) (answer : Reading) → ReaderPromise sheet entry answer exit
    → ByTheTable reading_told (reader_rows sheet (lengths_lent entry)) answer entry exit

abbrev pub WriteSheet : Type 0
WriteSheet =
    (kind code n : ℕ) (v : Values) (entry exit : List ℕ) (answer : Verdict) → WriterPromise kind code n v entry answer exit
    → ByTheTable verdict_told (writer_rows kind code n v (length entry)) answer entry exit

-- ---- the passes

abbrev pub FirstPass : Type 0
FirstPass =
    (given : FirstGiven) (entry exit : FirstLent) (answer : Verdict) → FirstPromise given entry answer exit
    → ByTheTable verdict_told (first_rows_of given entry) answer entry exit

abbrev pub SecondPass : Type 0
SecondPass =
    (given : SecondGiven) (entry exit : SecondLent) (answer : SecondAnswer) → SecondPromise given entry answer exit
    → ByTheTable second_told (second_rows_of given entry) answer entry exit

-- ---- the rounding that closes, and its check (document 02, M-104)

abbrev pub ClosingCorrections : Type 0
ClosingCorrections =
    (given : FirstGiven) (entry exit : List ℤ) (answer : Verdict) → ClosingPromise given entry answer exit
    → ByTheTable verdict_told (closing_rows given entry) answer entry exit

abbrev pub CheckClosing : Type 0
CheckClosing =
    (given : FirstGiven) (offered : List ℤ) (answer : Verdict) → answer ≡ check_answer given offered
    → ByTheTable verdict_told (check_rows given offered) answer (tt {0}) (tt {0})

-- ---- the same operations for C

abbrev pub LookC : Type 0
LookC =
    (sheet entry exit : List ℕ) (answer : ℕ) → LookPromise sheet entry answer exit
    → ByTheTable answer_told (look_rows sheet entry) answer entry exit

abbrev pub ReadC : Type 0
ReadC =
    (sheet : List ℕ) (entry exit : ReadLent) (answer : ℕ) → ReadPromise sheet entry answer exit
    → ByTheTable answer_told (read_rows sheet entry) answer entry exit

abbrev pub WriteC : Type 0
WriteC =
    (kind code n : ℕ) (v : Values) (entry exit : List ℕ) (answer : ℕ) → WritePromise kind code n v entry answer exit
    → ByTheTable answer_told (writer_rows kind code n v (length entry)) answer entry exit

abbrev pub FirstPassC : Type 0
FirstPassC =
    (given : FirstGiven) (entry exit : FirstLent) (answer : ℕ) → FirstPassPromise given entry answer exit
    → ByTheTable answer_told (first_rows_of given entry) answer entry exit

abbrev pub SecondPassC : Type 0
SecondPassC =
    (given : SecondGiven) (entry exit : SumsLent) (answer : ℕ) → SecondPassPromise given entry answer exit
    → ByTheTable answer_told (sums_rows given entry) answer entry exit

abbrev pub ReportC : Type 0
ReportC =
    (sheet : List ℕ) (entry exit : TextLent) (answer : ℕ) → ReportPromise sheet entry answer exit
    → ByTheTable answer_told (report_rows sheet entry) answer entry exit

abbrev pub ClosingC : Type 0
ClosingC =
    (given : FirstGiven) (entry exit : List ℤ) (answer : ℕ) → ClosingPassPromise given entry answer exit
    → ByTheTable answer_told (closing_rows given entry) answer entry exit

abbrev pub CheckClosingC : Type 0
CheckClosingC =
    (given : FirstGiven) (offered : List ℤ) (answer : ℕ) → answer ≡ answer_by (check_rows given offered)
    → ByTheTable answer_told (check_rows given offered) answer (tt {0}) (tt {0})
