use Rattle.std.specs.Prelude.{◌≡◌, refl, ℕ, List, [], ◌∷◌, ◌≤◌, ℤ, pos, Err, Ok, OnOk, length, take, replicate}
use Rattle.std.proofs.Common.{arith, rules}
use Rattle.vocabulary.specs.{sym, ◌∙◌, subst}
use Rattle.refusals.specs.{Numbers.Verdict, Order.judged, Ranges.most_limit}
use Rattle.figures.specs.{declared.Figure.Figure, Figure.angle_count, Figure.condition_count}
use Rattle.figures.proofs.Figures.{angle_bound, condition_bound}
use Rattle.whole.proofs.Lending.{lent_length}
use Rattle.pass_rules.specs.declared.first.FirstInput.{FirstInput}
use Rattle.pass_rules.specs.FirstPass.{misclosures_of, numerators_of, first_result_lengths}
use Rattle.pass_rules.specs.Promises.{FirstLent, first_lent, first_results_lent, FirstPromiseOf}
use Rattle.pass_steps.specs.Premises.{Within}
use Rattle.closing.specs.{Premises.most_numerator, Rules.pass_rows}
use Rattle.closing.proofs.Promised.{length_refused, length_passed, pass_answered, misclosures_small, numerators_small}
use Rattle.closing.proofs.exact.exact_into.Goals as goal

then : {P Q : Type 0} (v : Verdict) → (v ≡ Ok tt → P → Q) → OnOk v P → OnOk v Q
then (Ok tt) next p = next refl p
then (Err r) next p = tt

module _ (f : Figure) (given : FirstInput) (misclosures numerators : List ℤ)
    (m_is : length misclosures ≡ condition_count f) (n_is : length numerators ≡ angle_count f) where
  abbrev n : ℕ
  n = length numerators

  abbrev m : ℕ
  m = length misclosures

  -- what is lent to the pass, with arrays of our own for the other results
  abbrev entry : FirstLent
  entry = first_lent misclosures numerators (take n (replicate 24 (pos 0))) (take n (replicate 24 0)) (take n (replicate 24 0)) (take m (replicate 9 (pos 0)))

  lengths : first_results_lent entry ≡ first_result_lengths f
  lengths =
      let few : n ≤ 24 = omega (arith, n_is, angle_bound f) in
      let few_conditions : m ≤ 9 = omega (arith, m_is, condition_bound f) in
      let angles = sym (lent_length n (replicate 24 (pos 0)) few) ∙ n_is in
      let naturals = sym (lent_length n (replicate 24 0) few) ∙ n_is in
      let conditions = sym (lent_length m (replicate 9 (pos 0)) few_conditions) ∙ m_is in
      λ i. m_is i ∷ n_is i ∷ angles i ∷ naturals i ∷ naturals i ∷ conditions i ∷ []

  module _ {v : Verdict} {exit : FirstLent} (promise : FirstPromiseOf f given.limit given.angles.now given.rounds.now given.fixed.now entry v exit) where
    answered : v ≡ judged (pass_rows f given.limit given.angles.now given.rounds.now given.fixed.now)
    answered = pass_answered f given.limit given.angles.now given.rounds.now given.fixed.now entry lengths promise

    few_misclosures : (w : List ℤ) → OnOk v (w ≡ misclosures_of f given.angles.now given.fixed.now) → OnOk v (Within most_limit w)
    few_misclosures w =
        then v (λ passed are. subst (Within most_limit) (sym are)
        (misclosures_small f given.limit given.angles.now given.rounds.now given.fixed.now (sym answered ∙ passed)))

    few_numerators : (exact : List ℤ) → OnOk v (exact ≡ numerators_of f given.angles.now given.fixed.now) → OnOk v (Within most_numerator exact)
    few_numerators exact =
        then v (λ passed are. subst (Within most_numerator) (sym are)
        (numerators_small f given.limit given.angles.now given.rounds.now given.fixed.now (sym answered ∙ passed)))

pub returns-in_err-check_lengths-clause-answer : goal.returns-in_err-check_lengths-clause-answer
returns-in_err-check_lengths-clause-answer c =
    let again : c.from_residual.result ≡ Err c.in_err-check_lengths.field-0.0 = search rules in
    let own : length c.args.numerators.now ≡ angle_count c.args.figure = c.requires.numerators_len in
    again
    ∙ sym (length_refused c.args.figure c.args.given.limit c.args.given.angles.now c.args.given.rounds.now c.args.given.fixed.now c.args.corrections _
    (rw (← own) (sym c.check_lengths.ensures ∙ c.in_err-check_lengths.was)))

pub returns-clause-answer : goal.returns-clause-answer
returns-clause-answer c =
    let own : length c.args.numerators.now ≡ angle_count c.args.figure = c.requires.numerators_len in
    answered c.args.figure c.args.given c.args.misclosures.now c.args.numerators.now c.requires.misclosures_len own c.first_pass_of.ensures.promise
    ∙ sym (length_passed c.args.figure c.args.given.limit c.args.given.angles.now c.args.given.rounds.now c.args.given.fixed.now c.args.corrections
    (rw (← own) (sym c.check_lengths.ensures ∙ c.in_ok-check_lengths.was)))

pub returns-clause-few_misclosures : goal.returns-clause-few_misclosures
returns-clause-few_misclosures c =
    few_misclosures c.args.figure c.args.given c.args.misclosures.now c.args.numerators.now c.requires.misclosures_len c.requires.numerators_len c.first_pass_of.ensures.promise
    _ (search rules)

pub returns-clause-few_numerators : goal.returns-clause-few_numerators
returns-clause-few_numerators c =
    few_numerators c.args.figure c.args.given c.args.misclosures.now c.args.numerators.now c.requires.misclosures_len c.requires.numerators_len c.first_pass_of.ensures.promise
    _ (search rules)
