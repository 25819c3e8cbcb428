use Rattle.std.specs.Prelude.{◌≡◌, List, [], ◌∷◌, ◌++◌, ℕ, ◌≤◌, ℤ, pos, Err, Ok, length, replicate, get_or}
use Rattle.std.proofs.Common.{arith, rules}
use Rattle.vocabulary.specs.{sym, ap, ◌∙◌}
use Rattle.refusals.specs.{Numbers.Verdict, declared.Refusal.Refusal, Order.verdict_of, Order.judged, Promise.stored, Ranges.most_limit, Table.misclosures_row, Table.results_row}
use Rattle.judging.specs.Searches.{results_of}
use Rattle.figures.specs.{declared.Figure.Figure, Figure.angle_count, Figure.fixed_count, Figure.condition_count}
use Rattle.figures.proofs.Figures.{condition_bound}
use Rattle.whole.proofs.Lending.{lent_length}
use Rattle.pass_rules.specs.declared.first.FirstInput.{FirstInput}
use Rattle.pass_rules.specs.FirstPass.{limit_of, first_lengths, given_rows, misclosures_of}
use Rattle.pass_rules.specs.Promises.{FirstLent, first_results_lent, first_slices, FirstPromiseOf}
use Rattle.pass_rules.specs.Lent.{first_given_lengths, first_held}
use Rattle.pass_steps.specs.{Premises.Angles, Premises.Within, Steps.same_length}
use Rattle.pass_steps.proofs.StepLaws.{length_of}
use Rattle.pass_first.specs.Steps.{tenths_of, FirstWork, work_of, work_lent, work_lengths, with_rounds, first_from}
use Rattle.pass_first.proofs.FirstPromised.{refused_before, length_at, small_angles, small_fixed, refused_misclosure, small_misclosures, by_results}
use Rattle.pass_first.proofs.first.first_pass_of.Goals as goal

module _ (f : Figure) (given : FirstInput) (entry : FirstLent) where
  -- the rows before the work, as they are asked
  abbrev Asked : (lengths : List ℕ) → Verdict → Type 0
  Asked lengths answer =
      answer ≡ judged (given_rows f given.limit given.angles.now given.rounds.now given.fixed.now (first_given_lengths given ++ lengths))

  told : {lengths : List ℕ} {answer : Verdict} → lengths ≡ first_results_lent entry → Asked lengths answer → Asked (first_results_lent entry) answer
  told own asked =
      asked
      ∙ ap (λ (l : List ℕ). judged (given_rows f given.limit given.angles.now given.rounds.now given.fixed.now (first_given_lengths given ++ l))) own

  abbrev Promise : Verdict → FirstLent → Type 0
  Promise = FirstPromiseOf f given.limit given.angles.now given.rounds.now given.fixed.now entry

  unheard : (answer : Verdict) (r : Refusal) → Asked (first_results_lent entry) answer → answer ≡ Err r → Promise answer entry
  unheard = refused_before f given.limit given.angles.now given.rounds.now given.fixed.now entry

  -- they have passed
  module _ {answer : Verdict} (asked : Asked (first_results_lent entry) answer) (passed : answer ≡ Ok tt) where
    at : (k : ℕ) → get_or (first_slices given.angles.now given.rounds.now given.fixed.now entry) k 0 ≡ get_or (first_lengths f) k 0
    at = length_at f given.limit given.angles.now given.rounds.now given.fixed.now entry (sym asked ∙ passed)

    angles_len : length given.angles.now ≡ angle_count f
    angles_len = at 0

    fixed_len : length given.fixed.now ≡ fixed_count f
    fixed_len = at 2

    conditions : length entry.misclosures ≡ condition_count f
    conditions = at 3

    few : length entry.misclosures ≤ 9
    few = omega (arith, conditions, condition_bound f)

    room_len : work_lent (work_of entry) ≡ work_lengths f
    room_len = λ i. at 3 i ∷ at 4 i ∷ at 5 i ∷ at 6 i ∷ at 8 i ∷ []

    angles : Angles given.angles.now
    angles = small_angles f given.limit given.angles.now given.rounds.now given.fixed.now entry (sym asked ∙ passed)

    fixed : Angles given.fixed.now
    fixed = small_fixed f given.limit given.angles.now given.rounds.now given.fixed.now entry (sym asked ∙ passed)

    -- number 6
    module _ {limit : ℕ} {w : List ℤ} (are : w ≡ misclosures_of f given.angles.now given.fixed.now) (in_force : limit ≡ limit_of given.limit)
        {verdict : Verdict} (said : verdict ≡ verdict_of (misclosures_row limit w)) where
      of_figure : verdict ≡ verdict_of (misclosures_row (limit_of given.limit) (misclosures_of f given.angles.now given.fixed.now))
      of_figure = said ∙ λ i. verdict_of (misclosures_row (in_force i) (are i))

      refused : (r : Refusal) → verdict ≡ Err r → Promise verdict entry
      refused r e = refused_misclosure f given.limit given.angles.now given.rounds.now given.fixed.now entry (sym asked ∙ passed) verdict r of_figure e

      module _ (within : verdict ≡ Ok tt) where
        small : Within most_limit w
        small = λ i. rw are (small_misclosures f given.limit given.angles.now given.rounds.now given.fixed.now entry (sym asked ∙ passed) (sym of_figure ∙ within) i)

        -- number 7
        decided : {last : Verdict} {exit : FirstWork} {left : List ℕ}
            → last ≡ verdict_of (results_row (results_of given.angles.now (tenths_of f w)))
            → exit ≡ stored (verdict_of (results_row (results_of given.angles.now (tenths_of f w)))) (first_from f given.angles.now w) (work_of entry)
            → left ≡ stored last (same_length given.rounds.now entry.corrected_rounds) entry.corrected_rounds
            → Promise last (with_rounds exit left)
        decided answered leaves rounds =
            by_results f given.limit given.angles.now given.rounds.now given.fixed.now entry (sym asked ∙ passed) (sym of_figure ∙ within) w are
            (record { answered = answered; leaves = leaves }) rounds

pub returns-in_err-check_first_given-clause-promise : goal.returns-in_err-check_first_given-clause-promise
returns-in_err-check_first_given-clause-promise c =
    let again : c.from_residual.result ≡ c.check_first_given.result = search rules in
    let asked = told c.args.figure c.args.given (first_held c.args.room.now) c.lengths.ensures c.check_first_given.ensures in
    unheard c.args.figure c.args.given (first_held c.args.room.now) _ _ (again ∙ asked) (again ∙ c.in_err-check_first_given.was)

pub slice_bounds-w-end : goal.slice_bounds-w-end
slice_bounds-w-end c =
    few c.args.figure c.args.given (first_held c.args.room.now) (told c.args.figure c.args.given _ c.lengths.ensures c.check_first_given.ensures) c.in_ok-check_first_given.was

pub slice_bounds-w-end-2 : goal.slice_bounds-w-end-2
slice_bounds-w-end-2 c =
    lent_length _ (replicate 9 (pos 0)) (few c.args.figure c.args.given (first_held c.args.room.now) (told c.args.figure c.args.given _ c.lengths.ensures c.check_first_given.ensures) c.in_ok-check_first_given.was)

pub misclosures_into-requires-clause-angles_len : goal.misclosures_into-requires-clause-angles_len
misclosures_into-requires-clause-angles_len c =
    angles_len c.args.figure c.args.given (first_held c.args.room.now) (told c.args.figure c.args.given _ c.lengths.ensures c.check_first_given.ensures) c.in_ok-check_first_given.was

pub misclosures_into-requires-clause-fixed_len : goal.misclosures_into-requires-clause-fixed_len
misclosures_into-requires-clause-fixed_len c =
    fixed_len c.args.figure c.args.given (first_held c.args.room.now) (told c.args.figure c.args.given _ c.lengths.ensures c.check_first_given.ensures) c.in_ok-check_first_given.was

pub misclosures_into-requires-clause-w_len : goal.misclosures_into-requires-clause-w_len
misclosures_into-requires-clause-w_len c =
    let asked = told c.args.figure c.args.given (first_held c.args.room.now) c.lengths.ensures c.check_first_given.ensures in
    sym (lent_length _ (replicate 9 (pos 0)) (few c.args.figure c.args.given (first_held c.args.room.now) asked c.in_ok-check_first_given.was))
    ∙ conditions c.args.figure c.args.given (first_held c.args.room.now) asked c.in_ok-check_first_given.was

pub misclosures_into-requires-clause-angles : goal.misclosures_into-requires-clause-angles
misclosures_into-requires-clause-angles c =
    angles c.args.figure c.args.given (first_held c.args.room.now) (told c.args.figure c.args.given _ c.lengths.ensures c.check_first_given.ensures) c.in_ok-check_first_given.was

pub misclosures_into-requires-clause-angles_2 : goal.misclosures_into-requires-clause-angles_2
misclosures_into-requires-clause-angles_2 c =
    fixed c.args.figure c.args.given (first_held c.args.room.now) (told c.args.figure c.args.given _ c.lengths.ensures c.check_first_given.ensures) c.in_ok-check_first_given.was

pub returns-in_err-check_misclosures-clause-promise : goal.returns-in_err-check_misclosures-clause-promise
returns-in_err-check_misclosures-clause-promise c =
    let again : c.from_residual-in_err-check_misclosures.result ≡ c.check_misclosures.result = search rules in
    let asked = told c.args.figure c.args.given (first_held c.args.room.now) c.lengths.ensures c.check_first_given.ensures in
    refused c.args.figure c.args.given (first_held c.args.room.now) asked c.in_ok-check_first_given.was
    c.misclosures_into.ensures c.limit_in_force.ensures (again ∙ c.check_misclosures.ensures) _ (again ∙ c.in_err-check_misclosures.was)

pub first_corrected-outside-requires-clause-angles_len : goal.first_corrected-outside-requires-clause-angles_len
first_corrected-outside-requires-clause-angles_len c =
    angles_len c.args.figure c.args.given (first_held c.args.room.now) (told c.args.figure c.args.given _ c.lengths.ensures c.check_first_given.ensures) c.in_ok-check_first_given.was

pub first_corrected-outside-requires-clause-w_len : goal.first_corrected-outside-requires-clause-w_len
first_corrected-outside-requires-clause-w_len c = length_of _ _ c.misclosures_into.ensures

pub first_corrected-outside-requires-clause-room_len : goal.first_corrected-outside-requires-clause-room_len
first_corrected-outside-requires-clause-room_len c =
    room_len c.args.figure c.args.given (first_held c.args.room.now) (told c.args.figure c.args.given _ c.lengths.ensures c.check_first_given.ensures) c.in_ok-check_first_given.was

pub first_corrected-outside-requires-clause-within : goal.first_corrected-outside-requires-clause-within
first_corrected-outside-requires-clause-within c =
    let asked = told c.args.figure c.args.given (first_held c.args.room.now) c.lengths.ensures c.check_first_given.ensures in
    small c.args.figure c.args.given (first_held c.args.room.now) asked c.in_ok-check_first_given.was
    c.misclosures_into.ensures c.limit_in_force.ensures c.check_misclosures.ensures c.in_ok-check_misclosures.was

pub returns-clause-promise : goal.returns-clause-promise
returns-clause-promise c =
    let asked = told c.args.figure c.args.given (first_held c.args.room.now) c.lengths.ensures c.check_first_given.ensures in
    let held = c.first_corrected-outside.new.room.corrected_rounds.now in
    let rounds : c.store_rounds.new.lent ≡ stored c.first_corrected-outside.result (same_length c.args.given.rounds.now held) held = search rules in
    decided c.args.figure c.args.given (first_held c.args.room.now) asked c.in_ok-check_first_given.was
    c.misclosures_into.ensures c.limit_in_force.ensures c.check_misclosures.ensures c.in_ok-check_misclosures.was
    c.first_corrected-outside.ensures.answer c.first_corrected-outside.ensures.left
    (rounds ∙ ap (λ (l : List ℕ). stored c.first_corrected-outside.result (same_length c.args.given.rounds.now l) l) c.first_corrected-outside.ensures.rounds)
