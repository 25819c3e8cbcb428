use Rattle.refusals.specs.Numbers.{Verdict}
use Rattle.std.proofs.Common.{ℕ, ◌<◌, List, ◌≡◌, length, sym, ap, subst, ◌∙◌}
use Rattle.refusals.specs.Numbers.{verdict_told}
use Rattle.sheet_rules.specs.{Judging.writer_rows, Judging.writing_of, Promises.WriterPromise, Sheet.Values, Sheet.values_from}
use Rattle.sheet_rules.proofs.Refusals.{writer_in_table}
use Rattle.controller.specs.{Answer.place_step, Answer.answer_number, Promises.WritePromise}
use Rattle.controller.proofs.{Answers.place_small, PlaceBounds.write_within}
use Rattle.controller.proofs.write.bienguloc_write.Goals as goal

module _ (kind code n : ℕ) (v : Values) (entry : List ℕ) {verdict : Verdict} {exit : List ℕ} (promise : WriterPromise kind code n v entry verdict exit) where
  small : (verdict_told verdict).place < place_step
  unfolding writing_of
  small =
      subst (λ (w : Verdict). (verdict_told w).place < place_step) (sym promise.answered)
      (place_small (writer_rows kind code n v (length entry)) (writer_in_table kind code n v (length entry)) (write_within kind code n v (length entry)))

  answered : {answer : ℕ} → answer ≡ answer_number (verdict_told verdict) → WritePromise kind code n v entry answer exit
  unfolding writing_of
  answered e = record { answered = e ∙ ap (λ (w : Verdict). answer_number (verdict_told w)) promise.answered; leaves = promise.leaves }

pub answered-requires : goal.answered-requires
answered-requires c =
    small c.args.kind c.args.code c.args.n (values_from c.args.limit_or_tolerance c.args.angles.now c.args.rounds.now c.args.fixed.now c.args.log_sines.now c.args.differences.now c.args.log_sides.now)
    c.args.sheet.now c.write_sheet.ensures.promise

pub returns : goal.returns
returns c =
    answered c.args.kind c.args.code c.args.n (values_from c.args.limit_or_tolerance c.args.angles.now c.args.rounds.now c.args.fixed.now c.args.log_sines.now c.args.differences.now c.args.log_sides.now)
    c.args.sheet.now c.write_sheet.ensures.promise c.answered.ensures
