-- Number 7 is asked of the results, and everything is stored where it passes.
use Rattle.std.specs.Prelude.{◌≡◌, List, [], ◌∷◌, ℕ, ℤ, Err, Ok, length, get_or}
use Rattle.std.proofs.Common.{rules}
use Rattle.vocabulary.specs.{sym, ap, ◌∙◌}
use Rattle.whole.specs.{Lists.listed, Sums.vector}
use Rattle.refusals.specs.{Numbers.Verdict, declared.Refusal.Refusal, Order.verdict_of, Order.judged, Promise.stored, Table.lengths_row, Table.results_row}
use Rattle.judging.specs.Searches.{results_of}
use Rattle.figures.specs.{declared.Counts.Counts, declared.Figure.Figure, Figure.denominator, Figure.angle_count, Figure.condition_count, Numerators.condition_sum}
use Rattle.pass_pair.specs.declared.Pair.{Pair}
use Rattle.pass_rules.specs.Lent.{second_held}
use Rattle.pass_steps.specs.{Premises.Angles, Premises.Within, Premises.most_summed, Steps.results_rows, Steps.results_from}
use Rattle.pass_steps.proofs.{Judged.lengths_pass, Judged.first_passes, Judged.kept, Judged.written, Judged.taken, StepLaws.length_of}
use Rattle.pass_second.specs.Steps.{highs_from, lows_from, tenths_from, SecondWork, second_work, work_of, work_lent, work_lengths, second_from}
use Rattle.pass_second.proofs.Passed.{passed_small}
use Rattle.pass_second.proofs.corrections.second_corrected.Goals as goal

-- the lengths are right, so that number 7 decides
module _ (f : Figure) (angles : List ℕ) (sides : ℕ) (p : Pair) (a b : List ℤ) (work : SecondWork) (as_many : length angles ≡ angle_count f)
    (reduced : length a ≡ angle_count f) (lent : work_lent work ≡ work_lengths f)
    {counts : ℕ} (whole : counts ≡ denominator f) {tenths : List ℤ} (made : tenths ≡ tenths_from counts sides p a b) where
  abbrev own_tenths : List ℤ
  own_tenths = tenths_from (denominator f) sides p a b

  abbrev verdict : Verdict
  verdict = verdict_of (results_row (results_of angles own_tenths))

  tenths_are : tenths ≡ own_tenths
  tenths_are = made ∙ ap (λ (d : ℕ). tenths_from d sides p a b) whole

  tenths_many : length tenths ≡ length angles
  tenths_many = length_of _ _ tenths_are ∙ reduced ∙ sym as_many

  decided : judged (results_rows angles tenths (length work.adjusted)) ≡ verdict
  decided =
      let own = length angles ∷ length angles ∷ [] in
      let room : length work.adjusted ≡ angle_count f = ap (λ (l : List ℕ). get_or l 5 0) lent in
      let same : length tenths ∷ length work.adjusted ∷ [] ≡ own = λ i. tenths_many i ∷ (room ∙ sym as_many) i ∷ [] in
      first_passes (lengths_row (length tenths ∷ length work.adjusted ∷ []) own) (results_row (results_of angles tenths)) (lengths_pass _ own same)
      ∙ ap (λ (l : List ℤ). verdict_of (results_row (results_of angles l))) tenths_are

  module _ {answer : Verdict} (told : answer ≡ judged (results_rows angles tenths (length work.adjusted))) where
    small : Angles angles → answer ≡ Ok tt → Within most_summed tenths
    small few e =
        passed_small angles tenths tenths_many few
        (ap (λ (l : List ℤ). verdict_of (results_row (results_of angles l))) tenths_are ∙ sym (told ∙ decided) ∙ e)

    module _ {adjusted : List ℕ}
        (left : adjusted ≡ stored (judged (results_rows angles tenths (length work.adjusted))) (results_from angles tenths) work.adjusted) where
      refused : (r : Refusal) → answer ≡ Err r
          → second_work work.reduced work.side_reduced work.high_numerators work.low_numerators work.rounded adjusted work.rests
          ≡ stored verdict (second_from f angles sides p a b) work
      refused r e =
          let failed : verdict ≡ Err r = sym (told ∙ decided) ∙ e in
          let untouched : adjusted ≡ work.adjusted = left ∙ sym (kept _ _ _ _ (decided ∙ failed)) in
          (λ i. second_work work.reduced work.side_reduced work.high_numerators work.low_numerators work.rounded (untouched i) work.rests)
          ∙ kept verdict (second_from f angles sides p a b) work r failed

      passed : {high : List ℤ} {low : List ℕ} → high ≡ highs_from counts sides p a b → low ≡ lows_from counts sides p a b → answer ≡ Ok tt
          → second_work a b high low tenths adjusted (listed (condition_count f) (condition_sum f (vector tenths)))
          ≡ stored verdict (second_from f angles sides p a b) work
      passed highs lows e =
          let passes : verdict ≡ Ok tt = sym (told ∙ decided) ∙ e in
          let high = highs ∙ ap (λ (d : ℕ). highs_from d sides p a b) whole in
          let low = lows ∙ ap (λ (d : ℕ). lows_from d sides p a b) whole in
          let results : adjusted ≡ results_from angles own_tenths = left ∙ taken _ _ _ (decided ∙ passes) ∙ ap (results_from angles) tenths_are in
          written verdict (second_from f angles sides p a b) work passes
          (λ i. second_work a b (high i) (low i) (tenths_are i) (results i) (listed (condition_count f) (condition_sum f (vector (tenths_are i)))))

pub returns-in_err-results_into-clause-answer : goal.returns-in_err-results_into-clause-answer
returns-in_err-results_into-clause-answer c =
    let x = c.args.conditions in
    let again : c.from_residual.result ≡ c.results_into.result = search rules in
    again ∙ c.results_into.ensures.answer
    ∙ decided c.args.figure c.args.angles.now x.sides x.pair x.a.now x.b.now (work_of (second_held c.args.room.now)) c.requires.angles_len c.requires.a_len
    c.requires.room_len (ap (λ (k : Counts). k.denominator) c.counts_of-denominator.ensures) c.corrections_into.ensures.tenths_after

pub returns-in_err-results_into-clause-left : goal.returns-in_err-results_into-clause-left
returns-in_err-results_into-clause-left c =
    let x = c.args.conditions in
    refused c.args.figure c.args.angles.now x.sides x.pair x.a.now x.b.now (work_of (second_held c.args.room.now)) c.requires.angles_len c.requires.a_len
    c.requires.room_len (ap (λ (k : Counts). k.denominator) c.counts_of-denominator.ensures) c.corrections_into.ensures.tenths_after
    c.results_into.ensures.answer c.results_into.ensures.left _ c.in_err-results_into.was

pub store_second-requires-clause-within : goal.store_second-requires-clause-within
store_second-requires-clause-within c =
    let x = c.args.conditions in
    small c.args.figure c.args.angles.now x.sides x.pair x.a.now x.b.now (work_of (second_held c.args.room.now)) c.requires.angles_len c.requires.a_len
    c.requires.room_len (ap (λ (k : Counts). k.denominator) c.counts_of-denominator.ensures) c.corrections_into.ensures.tenths_after
    c.results_into.ensures.answer c.requires.angles c.in_ok-results_into.was

pub returns-clause-answer : goal.returns-clause-answer
returns-clause-answer c =
    let x = c.args.conditions in
    sym c.in_ok-results_into.was ∙ c.results_into.ensures.answer
    ∙ decided c.args.figure c.args.angles.now x.sides x.pair x.a.now x.b.now (work_of (second_held c.args.room.now)) c.requires.angles_len c.requires.a_len
    c.requires.room_len (ap (λ (k : Counts). k.denominator) c.counts_of-denominator.ensures) c.corrections_into.ensures.tenths_after

pub returns-clause-left : goal.returns-clause-left
returns-clause-left c =
    let x = c.args.conditions in
    ap work_of c.store_second.ensures.left
    ∙ passed c.args.figure c.args.angles.now x.sides x.pair x.a.now x.b.now (work_of (second_held c.args.room.now)) c.requires.angles_len c.requires.a_len
    c.requires.room_len (ap (λ (k : Counts). k.denominator) c.counts_of-denominator.ensures) c.corrections_into.ensures.tenths_after
    c.results_into.ensures.answer c.results_into.ensures.left c.corrections_into.ensures.high_after c.corrections_into.ensures.low_after
    c.in_ok-results_into.was
