-- What the reader and the writer of packed sheets promise: document 01, "Packed sheets" and "What the promises must decide".
use Rattle.sheet_rules.specs.Sheet.{Reading}
use Rattle.refusals.specs.Numbers.{Verdict}
use Rattle.std.specs.Prelude.{ℕ, List, length}
use Rattle.refusals.specs.Promise.{Promised}
use Rattle.sheet_rules.specs.{Sheet.Values, Sheet.values_read}
use Rattle.sheet_rules.specs.Lent.{Slices, slices_of, lengths_lent}
use Rattle.sheet_rules.specs.Judging.{reading_of, after_reading, writing_of, written_of}

-- ---- the reader

abbrev pub read_answer : (sheet : List ℕ) → Slices → Reading
read_answer sheet lent = reading_of sheet (lengths_lent lent)

abbrev pub read_left : (sheet : List ℕ) → Slices → Slices
read_left sheet lent = after_reading (read_answer sheet lent) (λ kind f. slices_of (values_read kind f sheet)) lent

abbrev pub ReaderPromise : (sheet : List ℕ) → (entry : Slices) → (answer : Reading) → (exit : Slices) → Type 0
ReaderPromise sheet entry answer exit = Promised (read_answer sheet entry) (read_left sheet entry) answer exit

-- ---- the writer

abbrev pub WriterPromise : (kind code n : ℕ) → Values → (entry : List ℕ) → (answer : Verdict) → (exit : List ℕ) → Type 0
WriterPromise kind code n v entry answer exit = Promised (writing_of kind code n v (length entry)) (written_of kind code n v entry) answer exit
