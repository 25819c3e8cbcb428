-- The orders of a look, of the reader and of the writer, for demand 1: every row is in the table, what is answered tells what the rows
-- are judged to be, and a refusal leaves what was lent. Assumes nothing.
use Rattle.std.specs.Prelude.{Err, Ok}
use Rattle.sheet_layout.specs.Head.{Look, headed}
use Rattle.std.specs.Prelude.{Err, Ok}
use Rattle.refusals.specs.Numbers.{Verdict}
use Rattle.std.specs.Prelude.{ℕ, List, [], ◌++◌, ◌≡◌, refl, length, T}
use Rattle.vocabulary.specs.{ap, ◌∙◌}
use Rattle.refusals.specs.{declared.Refusal.Refusal, Numbers.verdict_told}
use Rattle.refusals.specs.Order.{Row, all_in_table, judged}
use Rattle.figures.specs.declared.Figure.{Figure}
use Rattle.sheet_layout.specs.declared.Kind.{Kind}
use Rattle.sheet_layout.specs.Head.{name_rows, head_of, of_head, head_rows, look_of, look_told}
use Rattle.sheet_layout.proofs.Naming.{look_told_lem, look_judged}
use Rattle.sheet_rules.specs.Sheet.{Values}
use Rattle.sheet_rules.specs.Judging.{body_rows, reader_rows, reading_after, reading_found, reading_of, reading_told, after_reading, given_rows, writer_rows, writing_of, written_of}
use Rattle.sheet_rules.proofs.Accepted.{sheet_kept}

-- ---- a look at a sheet: 12 if under two bytes, then 11, 1

module _ (s : List ℕ) where
  pub head_in_table : T (all_in_table (head_rows s))
  unfolding head_rows
  head_in_table = tt

  pub head_tells : look_told (look_of s) ≡ verdict_told (judged (head_rows s))
  head_tells = look_told_lem (look_of s) ∙ ap verdict_told (look_judged s)

-- ---- the reader

module _ (s lent : List ℕ) where
  abbrev rows_after : Look → List Row
  rows_after found = head_rows s ++ of_head found [] (λ kind f. body_rows kind f s lent)

  pub reader_in_table : T (all_in_table (reader_rows s lent))
  unfolding reader_rows head_rows body_rows
  reader_in_table = go (look_of s)
    where
      go : (found : Look) → T (all_in_table (rows_after found))
      go (Ok head) = tt
      go (Err refusal) = tt

  pub reader_tells : reading_told (reading_of s lent) ≡ verdict_told (judged (reader_rows s lent))
  unfolding reading_of reader_rows head_rows
  reader_tells = go (look_of s) (head_tells s)
    where
      after : (kind : Kind) (f : Figure) (v : Verdict) → reading_told (reading_after v kind f s) ≡ verdict_told v
      after kind f (Ok tt) = refl
      after kind f (Err refusal) = refl

      go : (found : Look) → look_told found ≡ verdict_told (judged (head_rows s))
          → reading_told (reading_found found (judged (rows_after found)) s) ≡ verdict_told (judged (rows_after found))
      go (Ok head) e = after head.kind head.figure (judged (rows_after (headed head.kind head.figure)))
      go (Err refusal) e = e

  -- a refusal leaves what was lent
  pub kept_reading : {A : Type 0} {refusal : Refusal} → judged (reader_rows s lent) ≡ Err refusal → (values : Kind → Figure → A) (before : A)
      → after_reading (reading_of s lent) values before ≡ before
  unfolding reading_of
  kept_reading e values before = go (look_of s)
    where
      go : (found : Look) → after_reading (reading_found found (judged (reader_rows s lent)) s) values before ≡ before
      go (Ok head) = ap (λ (v : Verdict). after_reading (reading_after v head.kind head.figure s) values before) e
      go (Err other) = refl

-- ---- the writer

module _ (kind code n : ℕ) (v : Values) (size : ℕ) where
  pub writer_in_table : T (all_in_table (writer_rows kind code n v size))
  unfolding writer_rows given_rows
  writer_in_table = go (head_of kind code n)
    where
      go : (found : Look) → T (all_in_table (name_rows kind code n ++ of_head found [] (λ k f. given_rows k f v size)))
      go (Ok head) = tt
      go (Err refusal) = tt

  -- a refusal leaves what was lent
  pub kept_written : {refusal : Refusal} (before : List ℕ) → length before ≡ size → judged (writer_rows kind code n v size) ≡ Err refusal
      → written_of kind code n v before ≡ before
  unfolding writing_of
  kept_written {refusal} before same e = sheet_kept kind code n v before refusal (ap (writing_of kind code n v) same ∙ e)
