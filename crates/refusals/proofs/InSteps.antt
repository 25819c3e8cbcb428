-- How the code answers an order: one row after the other, each by its own promise, or one part of the order after the other. Assumes
-- nothing.
use Rattle.std.specs.Prelude.{Err, Ok}
use Rattle.refusals.specs.Numbers.{Verdict}
use Rattle.std.specs.Prelude.{List, [], ◌∷◌, ◌++◌, map, ◌≡◌}
use Rattle.vocabulary.specs.{map-append, sym, ap, ap₂, ◌∙◌}
use Rattle.refusals.specs.declared.Refusal.{Refusal}
use Rattle.refusals.specs.Order.{Row, answer_of, verdict_of, judged}
use Rattle.refusals.proofs.Answers.{answer_of_one, answer_of_cons, answer_of_append, cons_passes}

-- what is answered so far: the answer of the rows that are left
pub record Answered (rows : List Row) (answer : Verdict) : Type 0 where
  pub is : answer ≡ judged rows

pub last_row : (r : Row) {v : Verdict} → v ≡ verdict_of r → Answered (r ∷ []) v
last_row r e = record { is = e ∙ sym (answer_of_one (verdict_of r)) }

-- a row before those that are left
pub next_row : (r : Row) {later : List Row} {v w answer : Verdict} → v ≡ verdict_of r → answer ≡ answer_of (v ∷ w ∷ []) → Answered later w
    → Answered (r ∷ later) answer
next_row r {later} row_is made after = record {
  is = made ∙ ap₂ (λ (a b : Verdict). answer_of (a ∷ b ∷ [])) row_is after.is ∙ sym (answer_of_cons (verdict_of r) (map verdict_of later));
}

-- the same of rows that are asked in turn: one that fails is answered, and after one that passes those that are left decide
pub row_fails : (r : Row) {later : List Row} {v : Verdict} {refusal : Refusal} → v ≡ verdict_of r → v ≡ Err refusal → Answered (r ∷ later) v
unfolding answer_of
row_fails r {later} row_is e = record { is = e ∙ sym (ap (λ (t : Verdict). answer_of (t ∷ map verdict_of later)) (sym row_is ∙ e)) }

pub row_passes : (r : Row) {later : List Row} {v answer : Verdict} → v ≡ verdict_of r → v ≡ Ok tt → Answered later answer → Answered (r ∷ later) answer
unfolding answer_of
row_passes r {later} row_is e after = record {
  is = after.is ∙ sym (ap (λ (t : Verdict). answer_of (t ∷ map verdict_of later)) (sym row_is ∙ e));
}

-- an order in two parts
pub in_two_parts : (earlier later : List Row) → judged (earlier ++ later) ≡ answer_of (judged earlier ∷ judged later ∷ [])
in_two_parts earlier later = ap answer_of (map-append verdict_of earlier later) ∙ answer_of_append (map verdict_of earlier) (map verdict_of later)

-- an order that is passed is passed in each of its parts
pub both_parts : (earlier later : List Row) → judged (earlier ++ later) ≡ Ok tt → (judged earlier ≡ Ok tt) × (judged later ≡ Ok tt)
both_parts earlier later e =
    let parts = (cons_passes (judged earlier) (judged later ∷ [])).0 (sym (in_two_parts earlier later) ∙ e) in
    (parts.0, sym (answer_of_one (judged later)) ∙ parts.1)

-- where the first part is passed the second decides, and where it fails it is answered
pub judged_after_pass : (earlier later : List Row) → judged earlier ≡ Ok tt → judged (earlier ++ later) ≡ judged later
unfolding answer_of
judged_after_pass earlier later e =
    in_two_parts earlier later ∙ ap (λ (v : Verdict). answer_of (v ∷ judged later ∷ [])) e ∙ answer_of_one (judged later)

pub judged_after_failure : (earlier later : List Row) (refusal : Refusal) → judged earlier ≡ Err refusal → judged (earlier ++ later) ≡ Err refusal
unfolding answer_of
judged_after_failure earlier later refusal e = in_two_parts earlier later ∙ ap (λ (v : Verdict). answer_of (v ∷ judged later ∷ [])) e
