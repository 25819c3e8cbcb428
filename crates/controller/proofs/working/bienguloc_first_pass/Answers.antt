use Rattle.refusals.specs.Numbers.{Verdict}
use Rattle.std.proofs.Common.{ℕ, ◌<◌, ◌≡◌, sym, ap, subst, ◌∙◌}
use Rattle.refusals.specs.Numbers.{verdict_told}
use Rattle.pass_rules.specs.FirstPass.{first_pass_verdict}
use Rattle.pass_rules.specs.Promises.{FirstGiven, first_given, FirstLent, first_lent, first_lengths_lent, first_rows_of, FirstPromise}
use Rattle.pass_rules.proofs.Refusals.{first_in_table}
use Rattle.std.proofs.Common.{rules}
use Rattle.pass_rules.specs.Lent.{first_held}
use Rattle.controller.specs.{Answer.place_step, Answer.answer_number, Promises.FirstPassPromise}
use Rattle.controller.proofs.{Answers.place_small, PlaceBounds.first_within}
use Rattle.controller.proofs.working.bienguloc_first_pass.Goals as goal

module _ (given : FirstGiven) (entry : FirstLent) {verdict : Verdict} {exit : FirstLent} (promise : FirstPromise given entry verdict exit) where
  small : (verdict_told verdict).place < place_step
  unfolding first_pass_verdict
  small =
      subst (λ (w : Verdict). (verdict_told w).place < place_step) (sym promise.answered)
      (place_small (first_rows_of given entry)
      (first_in_table given.code given.n given.limit given.angles given.rounds given.fixed (first_lengths_lent given entry)) (first_within given entry))

  answered : {answer : ℕ} → answer ≡ answer_number (verdict_told verdict) → FirstPassPromise given entry answer exit
  unfolding first_pass_verdict
  answered e = record { answered = e ∙ ap (λ (w : Verdict). answer_number (verdict_told w)) promise.answered; leaves = promise.leaves }

pub answered-requires : goal.answered-requires
answered-requires c =
    small (first_given c.args.code c.args.n c.args.limit c.args.angles.now c.args.rounds.now c.args.fixed.now)
    (first_lent c.args.misclosures.now c.args.numerators.now c.args.rounded.now c.args.corrected.now c.args.corrected_rounds.now c.args.rests.now)
    c.first_pass.ensures.promise

pub returns : goal.returns
returns c =
    let done : FirstPassPromise
    (first_given c.args.code c.args.n c.args.limit c.args.angles.now c.args.rounds.now c.args.fixed.now)
    (first_lent c.args.misclosures.now c.args.numerators.now c.args.rounded.now c.args.corrected.now c.args.corrected_rounds.now c.args.rests.now)
    c.answered.result (first_held c.first_pass.new.room) =
    answered
    (first_given c.args.code c.args.n c.args.limit c.args.angles.now c.args.rounds.now c.args.fixed.now)
    (first_lent c.args.misclosures.now c.args.numerators.now c.args.rounded.now c.args.corrected.now c.args.corrected_rounds.now c.args.rests.now)
    c.first_pass.ensures.promise c.answered.ensures in
    search (rules, done)
