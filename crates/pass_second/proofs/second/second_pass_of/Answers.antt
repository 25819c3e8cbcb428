-- Each row in its order, and a refusal before any store.
use Rattle.std.specs.Prelude.{◌≡◌, List, [], ◌∷◌, ◌++◌, ℕ, ◌≤◌, ◌<◌, ◌^◌, leb, ℤ, pos, nat_abs, Err, Ok, length, replicate, get_or, ◌≤ℤ◌}
use Rattle.std.proofs.Common.{rules}
use Rattle.std.proofs.lemmas.Grind.{common_steps}
use Rattle.vocabulary.specs.{sym, ap, ◌∙◌, subst, arith, leb→le}
use Rattle.whole.proofs.Lending.{lent_length}
use Rattle.refusals.specs.{Numbers.Verdict, declared.Refusal.Refusal, Order.verdict_of, Order.judged, Promise.stored, Table.results_row}
use Rattle.judging.specs.Searches.{results_of}
use Rattle.figures.specs.{declared.Figure.Figure, Figure.denominator}
use Rattle.figures.proofs.Figures.{each_figure, angle_bound}
use Rattle.pass_rules.specs.declared.second.{SecondInput.SecondInput}
use Rattle.pass_rules.specs.SecondPass.{SecondAnswer, SineEntries, reduced_of, side_reduced_of, side_reduced_count, second_lengths, entry_rows, sine_rows, second_answer_of}
use Rattle.pass_rules.specs.Promises.{SecondLent, second_results_lent, second_slices, SecondPromiseOf}
use Rattle.pass_rules.specs.Lent.{second_given_lengths, entries_given, second_held}
use Rattle.pass_steps.specs.{Steps.same_length}
use Rattle.pass_steps.proofs.{Judged.kept, Judged.written, StepLaws.length_of}
use Rattle.pass_second.specs.{declared.sums.Sums.Sums, Sines.sums_of}
use Rattle.pass_second.specs.Steps.{SmallPair, divisor_from, tenths_from, SecondWork, work_of, work_lent, work_lengths, with_rounds, second_from}
use Rattle.pass_second.proofs.SecondPromised as promised
use Rattle.pass_second.proofs.SecondSteps.{divisor_from_natural}
use Rattle.pass_second.proofs.second.second_pass_of.Goals as goal

-- the one figure with known sides has no more angles
side_bound : (f : Figure) → side_reduced_count f ≤ 12
side_bound f = leb→le (side_reduced_count f) 12 (each_figure (λ g. leb (side_reduced_count g) 12) tt f)

module _ (f : Figure) (given : SecondInput) (entry : SecondLent) where
  abbrev tolerance : ℕ
  tolerance = given.tolerance

  abbrev angles : List ℕ
  angles = given.angles.now

  abbrev rounds : List ℕ
  rounds = given.rounds.now

  abbrev e : SineEntries
  e = entries_given given

  -- the rows before the work, as they are asked
  abbrev asked : (lengths : List ℕ) → Verdict
  asked lengths = judged (entry_rows f tolerance angles rounds e (second_given_lengths given ++ lengths))

  told : {lengths : List ℕ} {answer : Verdict} → lengths ≡ second_results_lent entry → answer ≡ asked lengths → asked (second_results_lent entry) ≡ answer
  told own is = sym (is ∙ ap asked own)

  abbrev Promise : SecondAnswer → SecondLent → Type 0
  Promise = SecondPromiseOf f tolerance angles rounds e entry

  unheard : (r : Refusal) → asked (second_results_lent entry) ≡ Err r → Promise (Err r) entry
  unheard = promised.refused_before f tolerance angles rounds e entry

  -- they have passed
  module _ (passed : asked (second_results_lent entry) ≡ Ok tt) where
    at : (k : ℕ) → get_or (second_slices angles rounds e entry) k 0 ≡ get_or (second_lengths f) k 0
    at = promised.length_at f tolerance angles rounds e entry passed

    few : length angles ≤ 24
    few = omega (arith, at 0, angle_bound f)

    side_few : length entry.side_reduced ≤ 12
    side_few = omega (arith, at 6, side_bound f)

    room_len : work_lent (work_of entry) ≡ work_lengths f
    room_len = λ i. at 5 i ∷ at 6 i ∷ at 7 i ∷ at 8 i ∷ at 9 i ∷ at 10 i ∷ at 12 i ∷ []

    -- the sums
    module _ {sums : Sums} (sums_are : sums ≡ sums_of f e) where
      natural : pos 0 ≤ℤ divisor_from (length given.log_sides.now) sums.pair
      natural = subst (λ (z : ℤ). pos 0 ≤ℤ z) (λ i. divisor_from (sym (at 4) i) (sym sums_are i).pair) (divisor_from_natural f e)

      pole_small : nat_abs sums.pair.wa < 2 ^ 32
      pole_small = subst (λ (s : Sums). nat_abs s.pair.wa < 2 ^ 32) (sym sums_are) (promised.small_pole_misclosure f tolerance angles rounds e entry passed)

      side_small : nat_abs sums.pair.wb < 2 ^ 32
      side_small = subst (λ (s : Sums). nat_abs s.pair.wb < 2 ^ 32) (sym sums_are) (promised.small_side_misclosure f tolerance angles rounds e entry passed)

      pole_squares : (pos 0 ≤ℤ sums.difference_squares) × (nat_abs sums.difference_squares < 2 ^ 32)
      pole_squares =
          subst (λ (s : Sums). (pos 0 ≤ℤ s.difference_squares) × (nat_abs s.difference_squares < 2 ^ 32)) (sym sums_are)
          (promised.small_pole_squares f tolerance angles rounds e entry passed)

      side_squares : (pos 0 ≤ℤ sums.side_difference_squares) × (nat_abs sums.side_difference_squares < 2 ^ 32)
      side_squares =
          subst (λ (s : Sums). (pos 0 ≤ℤ s.side_difference_squares) × (nat_abs s.side_difference_squares < 2 ^ 32)) (sym sums_are)
          (promised.small_side_squares f tolerance angles rounds e entry passed)

      -- numbers 10 and 9
      module _ {d : ℕ} (d_is : pos d ≡ divisor_from (length given.log_sides.now) sums.pair) {verdict : Verdict}
          (said : verdict ≡ judged (sine_rows tolerance (pos d) sums.pair.wa sums.difference_squares sums.pair.wb sums.side_difference_squares)) where
        of_figure : verdict ≡ judged (promised.sines f tolerance angles rounds e entry)
        of_figure = said ∙ promised.sines_judged f tolerance angles rounds e entry (length given.log_sides.now) sums d (at 4) sums_are d_is

        refused : (r : Refusal) → verdict ≡ Err r → Promise (Err r) entry
        refused r is = promised.refused_sines f tolerance angles rounds e entry passed r (sym of_figure ∙ is)

        module _ (within : verdict ≡ Ok tt) where
          small_pair : SmallPair sums.pair
          small_pair =
              subst (λ (s : Sums). SmallPair s.pair) (sym sums_are) (promised.small_pair f tolerance angles rounds e entry passed (sym of_figure ∙ within))

          -- number 7
          decided : {a b : List ℤ} → a ≡ reduced_of f e → b ≡ side_reduced_of f e
              → {last : Verdict} {exit : SecondWork} {left : List ℕ}
              → last ≡ verdict_of (results_row (results_of angles (tenths_from (denominator f) (length given.log_sides.now) sums.pair a b)))
              → exit ≡ stored (verdict_of (results_row (results_of angles (tenths_from (denominator f) (length given.log_sides.now) sums.pair a b))))
              (second_from f angles (length given.log_sides.now) sums.pair a b) (work_of entry)
              → left ≡ stored last (same_length rounds entry.adjusted_rounds) entry.adjusted_rounds
              → Promise (second_answer_of last sums.pair.wa sums.pair.wb (pos d)) (with_rounds exit left)
          decided {a} {b} a_is b_is =
              promised.by_results f tolerance angles rounds e entry passed (sym of_figure ∙ within) (length given.log_sides.now) sums.pair a b
              (at 4) (ap (λ (s : Sums). s.pair) sums_are) a_is b_is d d_is

pub returns-in_err-check_second_given-clause-promise : goal.returns-in_err-check_second_given-clause-promise
returns-in_err-check_second_given-clause-promise c =
    let said : ◌≡◌ {A = SecondAnswer} c.from_residual.result (Err c.in_err-check_second_given.field-0.0) = search rules in
    let promise = unheard c.args.figure c.args.given (second_held c.args.room.now) _ (told c.args.figure c.args.given (second_held c.args.room.now) c.lengths.ensures c.check_second_given.ensures ∙ c.in_err-check_second_given.was) in
    record { answered = said ∙ promise.answered; leaves = promise.leaves }

pub slice_bounds-a-end : goal.slice_bounds-a-end
slice_bounds-a-end c =
    few c.args.figure c.args.given (second_held c.args.room.now) (told c.args.figure c.args.given (second_held c.args.room.now) c.lengths.ensures c.check_second_given.ensures ∙ c.in_ok-check_second_given.was)

pub slice_bounds-a-end-2 : goal.slice_bounds-a-end-2
slice_bounds-a-end-2 c =
    lent_length _ (replicate 24 (pos 0)) (few c.args.figure c.args.given (second_held c.args.room.now) (told c.args.figure c.args.given (second_held c.args.room.now) c.lengths.ensures c.check_second_given.ensures ∙ c.in_ok-check_second_given.was))

pub slice_bounds-b-end : goal.slice_bounds-b-end
slice_bounds-b-end c =
    side_few c.args.figure c.args.given (second_held c.args.room.now) (told c.args.figure c.args.given (second_held c.args.room.now) c.lengths.ensures c.check_second_given.ensures ∙ c.in_ok-check_second_given.was)

pub slice_bounds-b-end-2 : goal.slice_bounds-b-end-2
slice_bounds-b-end-2 c =
    lent_length _ (replicate 12 (pos 0)) (side_few c.args.figure c.args.given (second_held c.args.room.now) (told c.args.figure c.args.given (second_held c.args.room.now) c.lengths.ensures c.check_second_given.ensures ∙ c.in_ok-check_second_given.was))

pub sums_into-sums-requires-clause-log_sines_len : goal.sums_into-sums-requires-clause-log_sines_len
sums_into-sums-requires-clause-log_sines_len c =
    at c.args.figure c.args.given (second_held c.args.room.now) (told c.args.figure c.args.given (second_held c.args.room.now) c.lengths.ensures c.check_second_given.ensures ∙ c.in_ok-check_second_given.was) 2

pub sums_into-sums-requires-clause-differences_len : goal.sums_into-sums-requires-clause-differences_len
sums_into-sums-requires-clause-differences_len c =
    at c.args.figure c.args.given (second_held c.args.room.now) (told c.args.figure c.args.given (second_held c.args.room.now) c.lengths.ensures c.check_second_given.ensures ∙ c.in_ok-check_second_given.was) 3

pub sums_into-sums-requires-clause-log_sides_len : goal.sums_into-sums-requires-clause-log_sides_len
sums_into-sums-requires-clause-log_sides_len c =
    at c.args.figure c.args.given (second_held c.args.room.now) (told c.args.figure c.args.given (second_held c.args.room.now) c.lengths.ensures c.check_second_given.ensures ∙ c.in_ok-check_second_given.was) 4

pub sums_into-sums-requires-clause-a_len : goal.sums_into-sums-requires-clause-a_len
sums_into-sums-requires-clause-a_len c =
    sym (lent_length _ (replicate 24 (pos 0)) (few c.args.figure c.args.given (second_held c.args.room.now) (told c.args.figure c.args.given (second_held c.args.room.now) c.lengths.ensures c.check_second_given.ensures ∙ c.in_ok-check_second_given.was))) ∙ at c.args.figure c.args.given (second_held c.args.room.now) (told c.args.figure c.args.given (second_held c.args.room.now) c.lengths.ensures c.check_second_given.ensures ∙ c.in_ok-check_second_given.was) 0

pub sums_into-sums-requires-clause-b_len : goal.sums_into-sums-requires-clause-b_len
sums_into-sums-requires-clause-b_len c =
    sym (lent_length _ (replicate 12 (pos 0)) (side_few c.args.figure c.args.given (second_held c.args.room.now) (told c.args.figure c.args.given (second_held c.args.room.now) c.lengths.ensures c.check_second_given.ensures ∙ c.in_ok-check_second_given.was))) ∙ at c.args.figure c.args.given (second_held c.args.room.now) (told c.args.figure c.args.given (second_held c.args.room.now) c.lengths.ensures c.check_second_given.ensures ∙ c.in_ok-check_second_given.was) 6

pub sums_into-sums-requires-clause-log_sines : goal.sums_into-sums-requires-clause-log_sines
sums_into-sums-requires-clause-log_sines c =
    promised.small_log_sines c.args.figure c.args.given.tolerance c.args.given.angles.now c.args.given.rounds.now (entries_given c.args.given) (second_held c.args.room.now)
    (told c.args.figure c.args.given (second_held c.args.room.now) c.lengths.ensures c.check_second_given.ensures ∙ c.in_ok-check_second_given.was)

pub sums_into-sums-requires-clause-log_sines_2 : goal.sums_into-sums-requires-clause-log_sines_2
sums_into-sums-requires-clause-log_sines_2 c =
    promised.small_log_sides c.args.figure c.args.given.tolerance c.args.given.angles.now c.args.given.rounds.now (entries_given c.args.given) (second_held c.args.room.now)
    (told c.args.figure c.args.given (second_held c.args.room.now) c.lengths.ensures c.check_second_given.ensures ∙ c.in_ok-check_second_given.was)

pub sums_into-sums-requires-clause-within : goal.sums_into-sums-requires-clause-within
sums_into-sums-requires-clause-within c =
    promised.small_differences c.args.figure c.args.given.tolerance c.args.given.angles.now c.args.given.rounds.now (entries_given c.args.given) (second_held c.args.room.now)
    (told c.args.figure c.args.given (second_held c.args.room.now) c.lengths.ensures c.check_second_given.ensures ∙ c.in_ok-check_second_given.was)

pub divisor_of-divisor-requires : goal.divisor_of-divisor-requires
divisor_of-divisor-requires c =
    natural c.args.figure c.args.given (second_held c.args.room.now)
    (told c.args.figure c.args.given (second_held c.args.room.now) c.lengths.ensures c.check_second_given.ensures ∙ c.in_ok-check_second_given.was) c.sums_into-sums.ensures.value

pub check_sines-requires-clause-wa_bound : goal.check_sines-requires-clause-wa_bound
check_sines-requires-clause-wa_bound c =
    pole_small c.args.figure c.args.given (second_held c.args.room.now)
    (told c.args.figure c.args.given (second_held c.args.room.now) c.lengths.ensures c.check_second_given.ensures ∙ c.in_ok-check_second_given.was) c.sums_into-sums.ensures.value

pub check_sines-requires-clause-wb_bound : goal.check_sines-requires-clause-wb_bound
check_sines-requires-clause-wb_bound c =
    side_small c.args.figure c.args.given (second_held c.args.room.now)
    (told c.args.figure c.args.given (second_held c.args.room.now) c.lengths.ensures c.check_second_given.ensures ∙ c.in_ok-check_second_given.was) c.sums_into-sums.ensures.value

pub check_sines-requires-clause-pos_bound : goal.check_sines-requires-clause-pos_bound
check_sines-requires-clause-pos_bound c =
    pole_squares c.args.figure c.args.given (second_held c.args.room.now)
    (told c.args.figure c.args.given (second_held c.args.room.now) c.lengths.ensures c.check_second_given.ensures ∙ c.in_ok-check_second_given.was) c.sums_into-sums.ensures.value

pub check_sines-requires-clause-pos_bound_2 : goal.check_sines-requires-clause-pos_bound_2
check_sines-requires-clause-pos_bound_2 c =
    side_squares c.args.figure c.args.given (second_held c.args.room.now)
    (told c.args.figure c.args.given (second_held c.args.room.now) c.lengths.ensures c.check_second_given.ensures ∙ c.in_ok-check_second_given.was) c.sums_into-sums.ensures.value

pub check_sines-requires-clause-tolerance_le_most_tolerance : goal.check_sines-requires-clause-tolerance_le_most_tolerance
check_sines-requires-clause-tolerance_le_most_tolerance c =
    promised.small_tolerance c.args.figure c.args.given.tolerance c.args.given.angles.now c.args.given.rounds.now (entries_given c.args.given) (second_held c.args.room.now)
    (told c.args.figure c.args.given (second_held c.args.room.now) c.lengths.ensures c.check_second_given.ensures ∙ c.in_ok-check_second_given.was)

pub returns-in_err-check_sines-clause-promise : goal.returns-in_err-check_sines-clause-promise
returns-in_err-check_sines-clause-promise c =
    let said : ◌≡◌ {A = SecondAnswer} c.from_residual-in_err-check_sines.result (Err c.in_err-check_sines.field-0.0) = search rules in
    let promise = refused c.args.figure c.args.given (second_held c.args.room.now)
    (told c.args.figure c.args.given (second_held c.args.room.now) c.lengths.ensures c.check_second_given.ensures ∙ c.in_ok-check_second_given.was) c.sums_into-sums.ensures.value c.divisor_of-divisor.ensures c.check_sines.ensures _ c.in_err-check_sines.was in
    record { answered = said ∙ promise.answered; leaves = promise.leaves }

pub second_corrected-outside-requires-clause-sides_value : goal.second_corrected-outside-requires-clause-sides_value
second_corrected-outside-requires-clause-sides_value c =
    at c.args.figure c.args.given (second_held c.args.room.now) (told c.args.figure c.args.given (second_held c.args.room.now) c.lengths.ensures c.check_second_given.ensures ∙ c.in_ok-check_second_given.was) 4

pub second_corrected-outside-requires-clause-angles_len : goal.second_corrected-outside-requires-clause-angles_len
second_corrected-outside-requires-clause-angles_len c =
    at c.args.figure c.args.given (second_held c.args.room.now) (told c.args.figure c.args.given (second_held c.args.room.now) c.lengths.ensures c.check_second_given.ensures ∙ c.in_ok-check_second_given.was) 0

pub second_corrected-outside-requires-clause-a_len : goal.second_corrected-outside-requires-clause-a_len
second_corrected-outside-requires-clause-a_len c =
    length_of _ _ c.sums_into-sums.ensures.a_after

pub second_corrected-outside-requires-clause-b_len : goal.second_corrected-outside-requires-clause-b_len
second_corrected-outside-requires-clause-b_len c =
    length_of _ _ c.sums_into-sums.ensures.b_after

pub second_corrected-outside-requires-clause-room_len : goal.second_corrected-outside-requires-clause-room_len
second_corrected-outside-requires-clause-room_len c =
    room_len c.args.figure c.args.given (second_held c.args.room.now) (told c.args.figure c.args.given (second_held c.args.room.now) c.lengths.ensures c.check_second_given.ensures ∙ c.in_ok-check_second_given.was)

pub second_corrected-outside-requires-clause-angles : goal.second_corrected-outside-requires-clause-angles
second_corrected-outside-requires-clause-angles c =
    promised.small_angles c.args.figure c.args.given.tolerance c.args.given.angles.now c.args.given.rounds.now (entries_given c.args.given) (second_held c.args.room.now)
    (told c.args.figure c.args.given (second_held c.args.room.now) c.lengths.ensures c.check_second_given.ensures ∙ c.in_ok-check_second_given.was)

pub second_corrected-outside-requires-clause-small_pair : goal.second_corrected-outside-requires-clause-small_pair
second_corrected-outside-requires-clause-small_pair c =
    small_pair c.args.figure c.args.given (second_held c.args.room.now)
    (told c.args.figure c.args.given (second_held c.args.room.now) c.lengths.ensures c.check_second_given.ensures ∙ c.in_ok-check_second_given.was) c.sums_into-sums.ensures.value c.divisor_of-divisor.ensures c.check_sines.ensures c.in_ok-check_sines.was

pub second_corrected-outside-requires-clause-within : goal.second_corrected-outside-requires-clause-within
second_corrected-outside-requires-clause-within c =
    λ i. rw c.sums_into-sums.ensures.a_after (promised.small_reduced c.args.figure c.args.given.tolerance c.args.given.angles.now c.args.given.rounds.now (entries_given c.args.given) (second_held c.args.room.now)
    (told c.args.figure c.args.given (second_held c.args.room.now) c.lengths.ensures c.check_second_given.ensures ∙ c.in_ok-check_second_given.was) i)

pub second_corrected-outside-requires-clause-within_2 : goal.second_corrected-outside-requires-clause-within_2
second_corrected-outside-requires-clause-within_2 c =
    λ i. rw c.sums_into-sums.ensures.b_after (promised.small_side_reduced c.args.figure c.args.given.tolerance c.args.given.angles.now c.args.given.rounds.now (entries_given c.args.given) (second_held c.args.room.now)
    (told c.args.figure c.args.given (second_held c.args.room.now) c.lengths.ensures c.check_second_given.ensures ∙ c.in_ok-check_second_given.was) i)

pub returns-in_err-outside-clause-promise : goal.returns-in_err-outside-clause-promise
returns-in_err-outside-clause-promise c =
    let said : ◌≡◌ {A = SecondAnswer} c.from_residual-in_err-outside.result
    (second_answer_of c.second_corrected-outside.result c.sums_into-sums.result.pair.wa c.sums_into-sums.result.pair.wb (pos c.divisor_of-divisor.result)) = search rules in
    let rounds : c.store_rounds.new.lent ≡ c.second_corrected-outside.new.room.adjusted_rounds.now = grind (arith, common_steps) in
    let promise = decided c.args.figure c.args.given (second_held c.args.room.now)
    (told c.args.figure c.args.given (second_held c.args.room.now) c.lengths.ensures c.check_second_given.ensures ∙ c.in_ok-check_second_given.was) c.sums_into-sums.ensures.value c.divisor_of-divisor.ensures c.check_sines.ensures
    c.in_ok-check_sines.was c.sums_into-sums.ensures.a_after c.sums_into-sums.ensures.b_after
    c.second_corrected-outside.ensures.answer c.second_corrected-outside.ensures.left
    (rounds ∙ c.second_corrected-outside.ensures.rounds ∙ kept _ _ _ _ c.in_err-outside.was) in
    record { answered = said ∙ promise.answered; leaves = promise.leaves }

pub returns-clause-promise : goal.returns-clause-promise
returns-clause-promise c =
    let said : ◌≡◌ {A = SecondAnswer} (Ok c.answer_of.result)
    (second_answer_of c.second_corrected-outside.result c.sums_into-sums.result.pair.wa c.sums_into-sums.result.pair.wb (pos c.divisor_of-divisor.result)) =
    (λ i. Ok (c.answer_of.ensures i))
    ∙ ap (λ (v : Verdict). second_answer_of v c.sums_into-sums.result.pair.wa c.sums_into-sums.result.pair.wb (pos c.divisor_of-divisor.result)) (sym c.in_ok-outside.was) in
    let rounds : c.store_rounds.new.lent ≡ same_length c.args.given.rounds.now c.second_corrected-outside.new.room.adjusted_rounds.now = grind (arith, common_steps) in
    let promise = decided c.args.figure c.args.given (second_held c.args.room.now)
    (told c.args.figure c.args.given (second_held c.args.room.now) c.lengths.ensures c.check_second_given.ensures ∙ c.in_ok-check_second_given.was) c.sums_into-sums.ensures.value c.divisor_of-divisor.ensures c.check_sines.ensures
    c.in_ok-check_sines.was c.sums_into-sums.ensures.a_after c.sums_into-sums.ensures.b_after
    c.second_corrected-outside.ensures.answer c.second_corrected-outside.ensures.left
    (written _ _ _ c.in_ok-outside.was (rounds ∙ ap (same_length c.args.given.rounds.now) c.second_corrected-outside.ensures.rounds)) in
    record { answered = said ∙ promise.answered; leaves = promise.leaves }
