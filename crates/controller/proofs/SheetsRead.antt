-- The reader for C, in its ends. Assumes nothing.
use Rattle.std.specs.Prelude.{Err, Ok}
use Rattle.sheet_layout.specs.Head.{Look, headed}
use Rattle.sheet_rules.specs.Sheet.{Reading, read_as}
use Rattle.std.specs.Prelude.{Err, Ok}
use Rattle.refusals.specs.Numbers.{Verdict}
use Rattle.std.specs.Prelude.{ℕ, ◌<◌, List, [], ◌∷◌, ◌≡◌, refl, length}
use Rattle.vocabulary.specs.{sym, ap, ap₂, subst, ◌∙◌, eq-eqb, ne_eqb}
use Rattle.refusals.specs.{declared.Refusal.Refusal, Order.answer_of, Order.judged, Promise.stored}
use Rattle.refusals.specs.Numbers.{place_of, Told, refusal_told, verdict_told}
use Rattle.figures.specs.{declared.Figure.Figure, Figure.description}
use Rattle.sheet_layout.specs.{declared.Kind.Kind, Kinds.number_of_kind, Layout.sheet_size, Head.look_of, Head.of_head}
use Rattle.sheet_rules.specs.Sheet.{values_read}
use Rattle.sheet_rules.specs.Judging.{body_rows, reading_after, reading_found, reading_of, reading_told, after_reading}
use Rattle.sheet_rules.specs.Promises.{ReaderPromise}
use Rattle.sheet_rules.specs.Lent.{Slices, slices_of, lengths_lent}
use Rattle.sheet_rules.proofs.Refusals.{reader_tells}
use Rattle.controller.specs.Answer.{place_step, answer_number, lengths_with}
use Rattle.controller.specs.Promises.{ReadLent, read_lent, read_rows, read_values, ReadPromise}
use Rattle.controller.proofs.{Answers.done_number, Answers.place_small, Lengths.none_with, Lengths.all_with, Lengths.kept_head}
use Rattle.controller.proofs.PlaceBounds.{read_in_table, read_within}

-- what the reader has read tells what it found
record Found (sheet : List ℕ) (found : Look) (v : Verdict) (kind : Kind) (f : Figure) (l : ℕ) : Type 0 where
  head : found ≡ headed kind f
  passed : v ≡ Ok tt
  as_packed : (values_read kind f sheet).limit_or_tolerance ≡ l

abbrev limit_in : Reading → ℕ
limit_in (Ok read) = read.limit_or_tolerance
limit_in (Err refusal) = 0

found_read : (sheet : List ℕ) (found : Look) (v : Verdict) (kind : Kind) (f : Figure) (l : ℕ) → reading_found found v sheet ≡ read_as kind f l → Found sheet found v kind f l
found_read sheet (Ok head) (Ok tt) kind f l e =
    let same_kind : head.kind ≡ kind = ap (λ (r : Reading). after_reading r (λ k g. k) kind) e in
    let same_figure : head.figure ≡ f = ap (λ (r : Reading). after_reading r (λ k g. g) f) e in
    record {
      head = ap₂ headed same_kind same_figure;
      passed = refl;
      as_packed =
          sym (ap₂ (λ (x : Kind) (y : Figure). (values_read x y sheet).limit_or_tolerance) same_kind same_figure)
          ∙ ap limit_in e;
    }
found_read sheet (Ok head) (Err refusal) kind f l e = record { head = cc; passed = cc; as_packed = cc }
found_read sheet (Err refusal) v kind f l e = record { head = cc; passed = cc; as_packed = cc }

module _ (sheet : List ℕ) (entry : ReadLent) where
  -- the lengths that are judged
  abbrev lengths : List ℕ
  lengths = lengths_with (length entry.head) 4 (lengths_lent entry.values)

  told_refusal : (refusal : Refusal) → reading_of sheet lengths ≡ Err refusal → verdict_told (judged (read_rows sheet entry)) ≡ refusal_told refusal
  told_refusal refusal e = sym (reader_tells sheet lengths) ∙ ap reading_told e

  small : (refusal : Refusal) → reading_of sheet lengths ≡ Err refusal → place_of refusal < place_step
  small refusal e =
      subst (λ (t : Told). t.place < place_step) (told_refusal refusal e) (place_small (read_rows sheet entry) (read_in_table sheet entry) (read_within sheet entry))

  refused : {answer : ℕ} (refusal : Refusal) → reading_of sheet lengths ≡ Err refusal → answer ≡ answer_number (refusal_told refusal)
      → ReadPromise sheet entry answer entry
  refused refusal e answer = record {
    answered = answer ∙ sym (ap answer_number (told_refusal refusal e));
    leaves = sym (kept_head (look_of sheet) (judged (read_rows sheet entry)) refusal (λ kind f. read_values kind f sheet) entry (told_refusal refusal e));
  }

  -- ---- a head of the wrong length

  module _ (differs : length entry.head ≡ 4 → ⊥) (refusal : Refusal) (e : reading_of sheet [] ≡ Err refusal) where
    so : reading_of sheet lengths ≡ Err refusal
    so = ap (reading_of sheet) (none_with (length entry.head) 4 differs (lengths_lent entry.values)) ∙ e

    pub wrong_head_small : place_of refusal < place_step
    wrong_head_small = small refusal so

    pub wrong_head : {answer : ℕ} → answer ≡ answer_number (refusal_told refusal) → ReadPromise sheet entry answer entry
    wrong_head answer = refused refusal so answer

  -- ---- a head of the right length, and what the reader promises

  module _ (same : length entry.head ≡ 4) {reading : Reading} {left : Slices} (promise : ReaderPromise sheet entry.values reading left) where
    as_judged : (answer : Reading) → reading ≡ answer → reading_of sheet lengths ≡ answer
    as_judged answer e = ap (reading_of sheet) (all_with (length entry.head) 4 same (lengths_lent entry.values)) ∙ sym promise.answered ∙ e

    left_as : (answer : Reading) → reading ≡ answer → left ≡ after_reading answer (λ kind f. slices_of (values_read kind f sheet)) entry.values
    left_as answer e =
        promise.leaves
        ∙ ap (λ (r : Reading). after_reading r (λ kind f. slices_of (values_read kind f sheet)) entry.values) (sym promise.answered ∙ e)

    pub right_refusal_small : (refusal : Refusal) → reading ≡ Err refusal → place_of refusal < place_step
    right_refusal_small refusal e = small refusal (as_judged (Err refusal) e)

    pub right_refused : {answer : ℕ} (refusal : Refusal) → reading ≡ Err refusal → answer ≡ answer_number (refusal_told refusal)
        → ReadPromise sheet entry answer (read_lent entry.head left)
    right_refused {answer} refusal e is =
        subst (λ (values : Slices). ReadPromise sheet entry answer (read_lent entry.head values)) (sym (left_as (Err refusal) e))
        (refused refusal (as_judged (Err refusal) e) is)

    pub right_read : {head : List ℕ} (kind : Kind) (f : Figure) (l : ℕ) → reading ≡ read_as kind f l
        → head ≡ number_of_kind kind ∷ (description f).code ∷ (description f).n ∷ l ∷ [] → ReadPromise sheet entry 0 (read_lent head left)
    unfolding reading_of
    right_read kind f l e stores =
        let is = found_read sheet (look_of sheet) (judged (read_rows sheet entry)) kind f l (as_judged (read_as kind f l) e) in
        record {
          answered = sym (ap (λ (v : Verdict). answer_number (verdict_told v)) is.passed ∙ done_number);
          leaves =
              ap₂ read_lent (stores ∙ ap (λ (n : ℕ). number_of_kind kind ∷ (description f).code ∷ (description f).n ∷ n ∷ []) (sym is.as_packed)) (left_as (read_as kind f l) e)
              ∙ sym (ap₂ (λ (found : Look) (v : Verdict). of_head found entry (λ k g. stored v (read_values k g sheet) entry)) is.head is.passed);
        }

-- ---- no lengths are those of no sheet

module _ (kind : Kind) (f : Figure) (sheet : List ℕ) where
  pub size_refused : (length sheet ≡ sheet_size kind f → ⊥) → reading_after (judged (body_rows kind f sheet [])) kind f sheet ≡ Err Refusal.WrongSheetLength
  unfolding body_rows answer_of
  size_refused differs = rw (ne_eqb (length sheet) (sheet_size kind f) differs)

  pub lengths_refused : length sheet ≡ sheet_size kind f → reading_after (judged (body_rows kind f sheet [])) kind f sheet ≡ Err Refusal.WrongLength
  unfolding body_rows answer_of
  lengths_refused same = rw (eq-eqb (length sheet) (sheet_size kind f) same)
