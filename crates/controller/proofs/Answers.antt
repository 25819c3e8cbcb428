-- What an answer tells: number and place can be taken apart again, and it is 0 exactly if all is done. Assumes nothing.
use Rattle.std.specs.Prelude.{Err, Ok}
use Rattle.refusals.specs.Numbers.{Verdict}
use Rattle.std.specs.Prelude.{ℕ, ◌+◌, ◌*◌, ◌/◌, ◌%◌, ◌<◌, List, ◌≡◌, refl, T}
use Rattle.vocabulary.specs.{sym, ap, ap₂, ◌∙◌, lt_of_le_of_lt, arith, lit<}
use Rattle.refusals.specs.{declared.Refusal.Refusal, Order.Row, Order.all_in_table, Order.judged}
use Rattle.refusals.specs.Numbers.{place_of, Told, told, refusal_told, verdict_told}
use Rattle.refusals.proofs.{PlaceBounds.PlacesWithin, PlaceBounds.place_within, Rows.passed_told}
use Rattle.figures.specs.Numerators.{most_angles}
use Rattle.controller.specs.{Answer.place_step, Answer.answer_number, Answer.answer_told, Promises.answer_by}

-- number and place of an answer
pub told_again : (t : Told) → t.place < place_step → answer_told (answer_number t) ≡ t
unfolding answer_number answer_told
told_again t small =
    let number_is : (t.number * place_step + t.place) / place_step ≡ t.number = omega arith in
    let place_is : (t.number * place_step + t.place) % place_step ≡ t.place = omega arith in
    ap₂ told number_is place_is

-- done is answered as 0
pub done_number : answer_number (told 0 0) ≡ 0
unfolding answer_number
done_number = refl

-- a lent slice of the wrong length
pub wrong_length_is : answer_number (refusal_told Refusal.WrongLength) ≡ 512
unfolding answer_number
wrong_length_is = refl

-- ---- an order with no more places than a figure has angles

module _ (rows : List Row) (ok : T (all_in_table rows)) (within : PlacesWithin most_angles rows) where
  pub place_small : (verdict_told (judged rows)).place < place_step
  place_small = lt_of_le_of_lt (place_within most_angles rows ok within) (lit< tt)

  pub refusal_small : {refusal : Refusal} → judged rows ≡ Err refusal → place_of refusal < place_step
  refusal_small e = rw (sym (ap (λ (v : Verdict). (verdict_told v).place) e)) place_small

  -- what C is answered tells what the order is judged to be
  pub answer_tells : {answer : ℕ} → answer ≡ answer_by rows → answer_told answer ≡ verdict_told (judged rows)
  answer_tells e = ap answer_told e ∙ told_again (verdict_told (judged rows)) place_small

  -- and 0 that no row holds
  pub answered_done : answer_by rows ≡ 0 → judged rows ≡ Ok tt
  unfolding answer_told
  answered_done e = passed_told (judged rows) (sym (told_again (verdict_told (judged rows)) place_small) ∙ ap answer_told e)
