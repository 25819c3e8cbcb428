use Rattle.std.specs.Prelude.{◌≡◌, List, [], ◌∷◌, ℕ, ℤ, Err, Ok, length, get_or}
use Rattle.std.proofs.Common.{rules}
use Rattle.vocabulary.specs.{sym, ap, ◌∙◌, lit≤}
use Rattle.refusals.specs.{Numbers.Verdict, declared.Refusal.Refusal, Order.verdict_of, Order.judged, Promise.stored, Table.lengths_row, Table.results_row}
use Rattle.judging.specs.Searches.{results_of}
use Rattle.figures.specs.{declared.Figure.Figure, Figure.angle_count}
use Rattle.pass_steps.specs.{Premises.most_summed, Steps.numerators_from, Steps.results_rows, Steps.results_from}
use Rattle.pass_steps.proofs.{Judged.lengths_pass, Judged.first_passes, Judged.kept, Judged.written, Judged.taken, StepLaws.length_of}
use Rattle.pass_rules.specs.Lent.{first_held}
use Rattle.pass_first.specs.Steps.{tenths_of, rests_from, FirstWork, first_work, work_of, work_lent, work_lengths, first_from}
use Rattle.pass_first.proofs.FirstSteps.{tenths_within}
use Rattle.pass_first.proofs.corrections.first_corrected.Goals as goal

-- the lengths are right, so that number 7 decides
module _ (f : Figure) (angles : List ℕ) (w tenths : List ℤ) (work : FirstWork)
    (as_many : length angles ≡ angle_count f) (lent : work_lent work ≡ work_lengths f) (made : tenths ≡ tenths_of f w) where
  abbrev verdict : Verdict
  verdict = verdict_of (results_row (results_of angles (tenths_of f w)))

  decided : judged (results_rows angles tenths (length work.corrected)) ≡ verdict
  decided =
      let own = length angles ∷ length angles ∷ [] in
      let room : length work.corrected ≡ angle_count f = ap (λ (l : List ℕ). get_or l 3 0) lent in
      let same : length tenths ∷ length work.corrected ∷ [] ≡ own = λ i. (length_of _ _ made ∙ sym as_many) i ∷ (room ∙ sym as_many) i ∷ [] in
      first_passes (lengths_row (length tenths ∷ length work.corrected ∷ []) own) (results_row (results_of angles tenths)) (lengths_pass _ own same)
      ∙ ap (λ (l : List ℤ). verdict_of (results_row (results_of angles l))) made

  module _ {answer : Verdict} {corrected : List ℕ} (told : answer ≡ judged (results_rows angles tenths (length work.corrected)))
      (left : corrected ≡ stored (judged (results_rows angles tenths (length work.corrected))) (results_from angles tenths) work.corrected) where
    refused : (r : Refusal) → answer ≡ Err r → first_work work.misclosures work.numerators work.rounded corrected work.rests ≡ stored verdict (first_from f angles w) work
    refused r e =
        let failed : verdict ≡ Err r = sym (told ∙ decided) ∙ e in
        let untouched : corrected ≡ work.corrected = left ∙ sym (kept _ _ _ _ (decided ∙ failed)) in
        (λ i. first_work work.misclosures work.numerators work.rounded (untouched i) work.rests) ∙ kept verdict (first_from f angles w) work r failed

    passed : {exact : List ℤ} → exact ≡ numerators_from f w → answer ≡ Ok tt → (exit : FirstWork) → exit ≡ first_work w exact tenths corrected (rests_from f w tenths)
        → exit ≡ stored verdict (first_from f angles w) work
    passed numerators e exit held =
        let passes : verdict ≡ Ok tt = sym (told ∙ decided) ∙ e in
        let results : corrected ≡ results_from angles (tenths_of f w) = left ∙ taken _ _ _ (decided ∙ passes) ∙ ap (results_from angles) made in
        written verdict (first_from f angles w) work passes (held ∙ λ i. first_work w (numerators i) (made i) (results i) (rests_from f w (made i)))

pub returns-in_err-results_into-clause-answer : goal.returns-in_err-results_into-clause-answer
returns-in_err-results_into-clause-answer c =
    let again : c.from_residual.result ≡ c.results_into.result = search rules in
    again ∙ c.results_into.ensures.answer
    ∙ decided c.args.figure c.args.angles.now c.args.w.now _ (work_of (first_held c.args.room.now)) c.requires.angles_len c.requires.room_len c.corrections_into.ensures.tenths_after

pub returns-in_err-results_into-clause-left : goal.returns-in_err-results_into-clause-left
returns-in_err-results_into-clause-left c =
    refused c.args.figure c.args.angles.now c.args.w.now _ (work_of (first_held c.args.room.now)) c.requires.angles_len c.requires.room_len c.corrections_into.ensures.tenths_after
    c.results_into.ensures.answer c.results_into.ensures.left _ c.in_err-results_into.was

pub store_first-requires-clause-within_2 : goal.store_first-requires-clause-within_2
store_first-requires-clause-within_2 c =
    λ i. rw c.corrections_into.ensures.tenths_after (tenths_within c.args.figure c.args.w.now c.requires.within most_summed (lit≤ tt) i)

pub returns-clause-answer : goal.returns-clause-answer
returns-clause-answer c =
    let accepted : c.results_into.result ≡ Ok tt = search rules in
    sym accepted ∙ c.results_into.ensures.answer
    ∙ decided c.args.figure c.args.angles.now c.args.w.now _ (work_of (first_held c.args.room.now)) c.requires.angles_len c.requires.room_len c.corrections_into.ensures.tenths_after

pub returns-clause-left : goal.returns-clause-left
returns-clause-left c =
    let accepted : c.results_into.result ≡ Ok tt = search rules in
    passed c.args.figure c.args.angles.now c.args.w.now _ (work_of (first_held c.args.room.now)) c.requires.angles_len c.requires.room_len c.corrections_into.ensures.tenths_after
    c.results_into.ensures.answer c.results_into.ensures.left c.corrections_into.ensures.exact_after accepted _ (search rules)
