use Rattle.std.proofs.Common.{◌<◌, [], ◌∷◌, length, sym, ap, subst, ◌∙◌}
use Rattle.std.specs.Prelude.{ℤ, take}
use Rattle.vocabulary.specs.{w64, ap₂, rules, not-true, not-false, to_z-of_z}
use Rattle.refusals.specs.{declared.Refusal.Refusal, Numbers.place_of, Numbers.refusal_told}
use Rattle.pass_rules.specs.{SecondPass.sine_entries, Promises.second_given, Promises.second_lent}
use Rattle.controller.specs.{Answer.place_step, Answer.answer_number, Promises.sums_lent, Promises.SecondPassPromise}
use Rattle.pass_rules.specs.Lent.{second_held}
use Rattle.controller.proofs.SecondSums.{wrong_sums_small, wrong_sums, right_refusal_small, right_refused, divisor_length, room_for_misclosures, right_done}
use Rattle.controller.proofs.working.bienguloc_second_pass.Goals as goal

pub refused-requires : goal.refused-requires
refused-requires c =
    subst (λ (r : Refusal). place_of r < place_step) (sym c.refusal_of_lengths.ensures)
    (wrong_sums_small (second_given c.args.code c.args.n c.args.tolerance c.args.angles.now c.args.rounds.now (sine_entries c.args.log_sines.now c.args.differences.now c.args.log_sides.now)) (sums_lent c.args.sine_misclosures.now c.args.divisor.now (second_lent c.args.reduced.now c.args.side_reduced.now c.args.numerators_high.now c.args.numerators_low.now c.args.rounded.now c.args.adjusted.now c.args.adjusted_rounds.now c.args.rests.now))
    (sym c.have_own_lengths.ensures ∙ not-true _ c.if-not-have_own_lengths.true-raw))

pub returns-then-not-have_own_lengths : goal.returns-then-not-have_own_lengths
returns-then-not-have_own_lengths c =
    wrong_sums (second_given c.args.code c.args.n c.args.tolerance c.args.angles.now c.args.rounds.now (sine_entries c.args.log_sines.now c.args.differences.now c.args.log_sides.now)) (sums_lent c.args.sine_misclosures.now c.args.divisor.now (second_lent c.args.reduced.now c.args.side_reduced.now c.args.numerators_high.now c.args.numerators_low.now c.args.rounded.now c.args.adjusted.now c.args.adjusted_rounds.now c.args.rests.now))
    (sym c.have_own_lengths.ensures ∙ not-true _ c.if-not-have_own_lengths.true-raw)
    (c.refused.ensures ∙ ap (λ (r : Refusal). answer_number (refusal_told r)) c.refusal_of_lengths.ensures)

pub refused-requires-in-Err : goal.refused-requires-in-Err
refused-requires-in-Err c =
    right_refusal_small (second_given c.args.code c.args.n c.args.tolerance c.args.angles.now c.args.rounds.now (sine_entries c.args.log_sines.now c.args.differences.now c.args.log_sides.now)) (sums_lent c.args.sine_misclosures.now c.args.divisor.now (second_lent c.args.reduced.now c.args.side_reduced.now c.args.numerators_high.now c.args.numerators_low.now c.args.rounded.now c.args.adjusted.now c.args.adjusted_rounds.now c.args.rests.now))
    (sym c.have_own_lengths.ensures ∙ not-false _ c.if-not-have_own_lengths.false-raw)
    c.second_pass.ensures.promise c.in-Err.refusal c.in-Err.is

pub returns-in-Err : goal.returns-in-Err
returns-in-Err c =
    let done : SecondPassPromise
    (second_given c.args.code c.args.n c.args.tolerance c.args.angles.now c.args.rounds.now (sine_entries c.args.log_sines.now c.args.differences.now c.args.log_sides.now))
    (sums_lent c.args.sine_misclosures.now c.args.divisor.now (second_lent c.args.reduced.now c.args.side_reduced.now c.args.numerators_high.now c.args.numerators_low.now c.args.rounded.now c.args.adjusted.now c.args.adjusted_rounds.now c.args.rests.now))
    c.refused-in-Err.result (sums_lent c.args.sine_misclosures.now c.args.divisor.now (second_held c.second_pass.new.room)) =
    right_refused (second_given c.args.code c.args.n c.args.tolerance c.args.angles.now c.args.rounds.now (sine_entries c.args.log_sines.now c.args.differences.now c.args.log_sides.now)) (sums_lent c.args.sine_misclosures.now c.args.divisor.now (second_lent c.args.reduced.now c.args.side_reduced.now c.args.numerators_high.now c.args.numerators_low.now c.args.rounded.now c.args.adjusted.now c.args.adjusted_rounds.now c.args.rests.now))
    (sym c.have_own_lengths.ensures ∙ not-false _ c.if-not-have_own_lengths.false-raw)
    c.second_pass.ensures.promise c.in-Err.refusal c.in-Err.is c.refused-in-Err.ensures in
    search (rules, done)

pub store_misclosures-requires : goal.store_misclosures-requires
store_misclosures-requires c =
    (room_for_misclosures (second_given c.args.code c.args.n c.args.tolerance c.args.angles.now c.args.rounds.now (sine_entries c.args.log_sines.now c.args.differences.now c.args.log_sides.now)) (sums_lent c.args.sine_misclosures.now c.args.divisor.now (second_lent c.args.reduced.now c.args.side_reduced.now c.args.numerators_high.now c.args.numerators_low.now c.args.rounded.now c.args.adjusted.now c.args.adjusted_rounds.now c.args.rests.now))
    (sym c.have_own_lengths.ensures ∙ not-false _ c.if-not-have_own_lengths.false-raw)
    c.second_pass.ensures.promise _ _ _ _ c.in-Ok.is).1

pub copy_from_slice-requires : goal.copy_from_slice-requires
copy_from_slice-requires c =
    divisor_length (second_given c.args.code c.args.n c.args.tolerance c.args.angles.now c.args.rounds.now (sine_entries c.args.log_sines.now c.args.differences.now c.args.log_sides.now)) (sums_lent c.args.sine_misclosures.now c.args.divisor.now (second_lent c.args.reduced.now c.args.side_reduced.now c.args.numerators_high.now c.args.numerators_low.now c.args.rounded.now c.args.adjusted.now c.args.adjusted_rounds.now c.args.rests.now))
    (sym c.have_own_lengths.ensures ∙ not-false _ c.if-not-have_own_lengths.false-raw)
    c.second_pass.ensures.promise

pub returns-in-Ok : goal.returns-in-Ok
returns-in-Ok c =
    let done : SecondPassPromise
    (second_given c.args.code c.args.n c.args.tolerance c.args.angles.now c.args.rounds.now (sine_entries c.args.log_sines.now c.args.differences.now c.args.log_sides.now))
    (sums_lent c.args.sine_misclosures.now c.args.divisor.now (second_lent c.args.reduced.now c.args.side_reduced.now c.args.numerators_high.now c.args.numerators_low.now c.args.rounded.now c.args.adjusted.now c.args.adjusted_rounds.now c.args.rests.now))
    0 (sums_lent c.store_misclosures.new.lent c.copy_from_slice.new.self (second_held c.second_pass.new.room)) =
    right_done (second_given c.args.code c.args.n c.args.tolerance c.args.angles.now c.args.rounds.now (sine_entries c.args.log_sines.now c.args.differences.now c.args.log_sides.now)) (sums_lent c.args.sine_misclosures.now c.args.divisor.now (second_lent c.args.reduced.now c.args.side_reduced.now c.args.numerators_high.now c.args.numerators_low.now c.args.rounded.now c.args.adjusted.now c.args.adjusted_rounds.now c.args.rests.now))
    (sym c.have_own_lengths.ensures ∙ not-false _ c.if-not-have_own_lengths.false-raw)
    c.second_pass.ensures.promise _ _ _ _ c.in-Ok.is
    (c.store_misclosures.ensures
    ∙ ap₂ (λ (w side : ℤ). take (length c.args.sine_misclosures.now) (w ∷ side ∷ []))
    (to_z-of_z {w = w64} (search rules)) (to_z-of_z {w = w64} (search rules)))
    c.copy_from_slice.ensures.after in
    search (rules, done)
