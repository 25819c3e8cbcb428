-- A look for C, in its three ends. Assumes nothing.
use Rattle.std.specs.Prelude.{Err}
use Rattle.sheet_layout.specs.Head.{Look, headed}
use Rattle.std.specs.Prelude.{Err, Ok}
use Rattle.refusals.specs.Numbers.{Verdict}
use Rattle.std.specs.Prelude.{ℕ, List, [], ◌∷◌, ◌≡◌, length}
use Rattle.vocabulary.specs.{sym, ap, ap₂, ◌∙◌}
use Rattle.refusals.specs.{declared.Refusal.Refusal, Numbers.refusal_told, Numbers.verdict_told, Promise.stored}
use Rattle.refusals.specs.{Order.answer_of, Order.judged}
use Rattle.refusals.specs.Table.{lengths_row}
use Rattle.refusals.proofs.InSteps.{judged_after_pass, judged_after_failure}
use Rattle.figures.specs.declared.Figure.{Figure}
use Rattle.sheet_layout.specs.declared.Kind.{Kind}
use Rattle.sheet_layout.specs.Head.{head_rows, look_of, of_head}
use Rattle.sheet_layout.proofs.Naming.{head_verdict, look_judged}
use Rattle.controller.specs.{Answer.answer_number, Promises.look_head, Promises.look_rows, Promises.look_left, Promises.LookPromise}
use Rattle.controller.proofs.{Answers.done_number, Lengths.wrong_length, Lengths.right_length}

module _ (sheet head : List ℕ) where
  by_verdict : (found : Look) (v : Verdict) → look_of sheet ≡ found → judged (look_rows sheet head) ≡ v
      → look_left sheet head ≡ of_head found head (λ kind f. stored v (look_head kind f) head)
  by_verdict found v e judged-so = ap₂ (λ (l : Look) (w : Verdict). of_head l head (λ kind f. stored w (look_head kind f) head)) e judged-so

  pub look_refusal : (refusal : Refusal) → look_of sheet ≡ Err refusal → judged (look_rows sheet head) ≡ Err refusal
  look_refusal refusal e = judged_after_failure (head_rows sheet) (lengths_row (length head ∷ []) (9 ∷ []) ∷ []) refusal (sym (look_judged sheet) ∙ ap head_verdict e)

  pub look_refused : {answer : ℕ} (refusal : Refusal) → look_of sheet ≡ Err refusal → answer ≡ answer_number (refusal_told refusal) → LookPromise sheet head answer head
  look_refused refusal e answer = record {
    answered = answer ∙ sym (ap (λ (v : Verdict). answer_number (verdict_told v)) (look_refusal refusal e));
    leaves = sym (by_verdict (Err refusal) (Err refusal) e (look_refusal refusal e));
  }

  module _ (kind : Kind) (f : Figure) (found : look_of sheet ≡ headed kind f) where
    passed : judged (head_rows sheet) ≡ Ok tt
    passed = sym (look_judged sheet) ∙ ap head_verdict found

    length_decides : judged (look_rows sheet head) ≡ judged (lengths_row (length head ∷ []) (9 ∷ []) ∷ [])
    length_decides = judged_after_pass (head_rows sheet) (lengths_row (length head ∷ []) (9 ∷ []) ∷ []) passed

    pub look_wrong : {answer : ℕ} → (length head ≡ 9 → ⊥) → answer ≡ answer_number (refusal_told Refusal.WrongLength) → LookPromise sheet head answer head
    look_wrong differs answer =
        let failed = length_decides ∙ wrong_length (length head) 9 differs [] in
        record {
          answered = answer ∙ sym (ap (λ (v : Verdict). answer_number (verdict_told v)) failed);
          leaves = sym (by_verdict (headed kind f) (Err Refusal.WrongLength) found failed);
        }

    pub look_done : {left : List ℕ} → length head ≡ 9 → left ≡ look_head kind f → LookPromise sheet head 0 left
    unfolding answer_of
    look_done right stores =
        let done = length_decides ∙ right_length (length head) 9 right [] in
        record {
          answered = sym (ap (λ (v : Verdict). answer_number (verdict_told v)) done ∙ done_number);
          leaves = stores ∙ sym (by_verdict (headed kind f) (Ok tt) found done);
        }
