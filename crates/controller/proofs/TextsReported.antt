-- A sheet's text for C, in its ends. Assumes nothing.
use Rattle.std.specs.Prelude.{None, Option, Some}
use Rattle.std.specs.Prelude.{Err, Ok}
use Rattle.refusals.specs.Numbers.{Verdict}
use Rattle.std.specs.Prelude.{ℕ, Bool, true, false, List, [], ◌∷◌, ◌≡◌, refl, length}
use Rattle.vocabulary.specs.{sym, ap, ap₂, ◌∙◌, lt-ltb, le-ltb, leb-true, leb-false}
use Rattle.refusals.specs.{declared.Refusal.Refusal, Numbers.refusal_told, Numbers.verdict_told, Promise.stored}
use Rattle.refusals.specs.Questions.{less}
use Rattle.refusals.specs.Order.{Row, row, answer_of, judged}
use Rattle.report.specs.Report.{report_text, has_room, reported_of, after_report, ReportedPromise}
use Rattle.controller.specs.Answer.{answer_number}
use Rattle.controller.specs.Promises.{TextLent, text_lent, text_laid, report_rows, report_left, ReportPromise}
use Rattle.controller.proofs.{Answers.done_number, Lengths.wrong_length, Lengths.right_length}

-- what was reported tells whether there was room
no_room : (room : Bool) (t : List ℕ) → reported_of room t ≡ None → room ≡ false
no_room true t e = cc
no_room false t e = refl

had_room : (room : Bool) (t : List ℕ) {count : ℕ} → reported_of room t ≡ Some count → room ≡ true
had_room true t e = refl
had_room false t e = cc

count_told : (room : Bool) (t : List ℕ) {count : ℕ} → reported_of room t ≡ Some count → count ≡ length t
count_told true t e = cc
count_told false t e = cc

module _ (sheet : List ℕ) (entry : TextLent) where
  abbrev text : List ℕ
  text = report_text sheet

  abbrev room : Bool
  room = has_room text entry.text

  -- the row of the text's own room
  abbrev room_row : Row
  room_row = row 2 (less (length entry.text) (length text))

  by_verdict : (v : Verdict) → judged (report_rows sheet entry) ≡ v
      → report_left sheet entry ≡ stored v (text_lent (text_laid sheet entry.text) (length text ∷ [])) entry
  by_verdict v e = ap (λ (w : Verdict). stored w (text_lent (text_laid sheet entry.text) (length text ∷ [])) entry) e

  refused : {answer : ℕ} → judged (report_rows sheet entry) ≡ Err Refusal.WrongLength → answer ≡ answer_number (refusal_told Refusal.WrongLength)
      → ReportPromise sheet entry answer entry
  refused e answer = record {
    answered = answer ∙ sym (ap (λ (v : Verdict). answer_number (verdict_told v)) e);
    leaves = sym (by_verdict (Err Refusal.WrongLength) e);
  }

  pub wrong_written : {answer : ℕ} → (length entry.written ≡ 1 → ⊥) → answer ≡ answer_number (refusal_told Refusal.WrongLength)
      → ReportPromise sheet entry answer entry
  wrong_written differs answer = refused (wrong_length (length entry.written) 1 differs (room_row ∷ [])) answer

  module _ (same : length entry.written ≡ 1) {told : (Option ℕ)} {left : List ℕ} (promise : ReportedPromise sheet entry.text told left) where
    room_decides : judged (report_rows sheet entry) ≡ judged (room_row ∷ [])
    room_decides = right_length (length entry.written) 1 same (room_row ∷ [])

    too_short : room ≡ false → judged (report_rows sheet entry) ≡ Err Refusal.WrongLength
    unfolding answer_of
    too_short e = room_decides ∙ rw (lt-ltb (length entry.text) (length text) (leb-false (length text) (length entry.text) e))

    fits : room ≡ true → judged (report_rows sheet entry) ≡ Ok tt
    unfolding answer_of
    fits e = room_decides ∙ rw (le-ltb (length entry.text) (length text) (leb-true (length text) (length entry.text) e))

    left_as : (b : Bool) → room ≡ b → left ≡ after_report b text entry.text
    left_as b e = promise.leaves ∙ ap (λ (c : Bool). after_report c text entry.text) e

    pub no_room_left : {answer : ℕ} → told ≡ None → answer ≡ answer_number (refusal_told Refusal.WrongLength)
        → ReportPromise sheet entry answer (text_lent left entry.written)
    no_room_left {answer} e is =
        let short = no_room room text (sym promise.answered ∙ e) in
        rw (left_as false short) (refused (too_short short) is)

    pub reported : {written : List ℕ} (count : ℕ) → told ≡ Some count → written ≡ count ∷ [] → ReportPromise sheet entry 0 (text_lent left written)
    reported count e stores =
        let told_so = sym promise.answered ∙ e in
        let there = had_room room text told_so in
        record {
          answered = sym (ap (λ (v : Verdict). answer_number (verdict_told v)) (fits there) ∙ done_number);
          leaves =
              ap₂ text_lent (left_as true there) (stores ∙ ap (λ (k : ℕ). k ∷ []) (count_told room text told_so))
              ∙ sym (by_verdict (Ok tt) (fits there));
        }
