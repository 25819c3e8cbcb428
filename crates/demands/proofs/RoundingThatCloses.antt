-- Document 02, M-104, of both operations, from Rattle and from C. Assumes nothing.
use Rattle.std.specs.Prelude.{Err, Ok, Option, Some}
use Rattle.refusals.specs.Numbers.{Verdict}
use Rattle.std.specs.Prelude.{ℕ, ◌*◌, ◌<◌, List, ◌⊎◌, ◌≡◌, refl, ℤ, pos, ◌+ℤ◌, length}
use Rattle.vocabulary.specs.{⊎_elim, sym, ap, ap₂, subst, ◌∙◌, arith}
use Rattle.whole.specs.Sums.{vector}
use Rattle.whole.proofs.Lists.{get_or_listed}
use Rattle.refusals.specs.{declared.Refusal.Refusal, Numbers.Told, Numbers.told, Numbers.verdict_told, Order.Row}
use Rattle.refusals.specs.Promise.{stored}
use Rattle.figures.specs.{declared.Figure.Figure, Numerators.condition_sum}
use Rattle.figures.specs.Figure.{denominator, angle_count, condition_count, figure_of, of_named}
use Rattle.pass_rules.specs.FirstPass.{misclosure, first_numerator, first_pass_rows, first_pass_verdict, first_rows}
use Rattle.pass_rules.specs.Promises.{FirstGiven, FirstLent, first_lengths_lent, first_rows_of, first_answer, first_values, FirstPromise}
use Rattle.pass_rules.proofs.{PassRows.OfFigure, PassRows.of_figure, Refusals.first_in_table}
use Rattle.closing.specs.{Floor.floor_quotient, Floor.ceiling_quotient, Rules.BothRules, Rules.choice_of}
use Rattle.closing.specs.Promises.{closing_rows_for, closing_rows, closing_answer, ClosingPromise, check_rows, check_answer, Fitting}
use Rattle.closing.proofs.BothRules.{choice_keeps_rules, whole_stays}
use Rattle.closing.proofs.Refusing.{closing_in_table, check_in_table, never_fifteen, as_the_first_pass, check_as_refused, check_passes, check_fails, check_either, own_choice_passes}
use Rattle.controller.specs.Answer.{place_step, answer_number, answer_told}
use Rattle.controller.specs.Promises.{answer_by, FirstPassPromise, ClosingPassPromise}
use Rattle.controller.proofs.Answers.{answer_tells, answered_done, done_number}
use Rattle.controller.proofs.PlaceBounds.{first_within, closing_within, check_within}
use Rattle.demands.specs.RoundingThatCloses.{Rules, Keeps, ChoiceCloses, RefusesAsTheFirstPass, NeverFifteen, CheckSays, CheckIsExact, CheckAcceptsTheChoice, ChoiceClosesC, RefusesAsTheFirstPassC, NeverFifteenC, CheckIsExactC, CheckAcceptsTheChoiceC}

-- ---- the rules, of the numbers that stand in the slices

module _ (f : Figure) (given : FirstGiven) (x : ℕ → ℤ) where
  abbrev a : List ℕ
  a = given.angles

  abbrev b : List ℕ
  b = given.fixed

  numerator_at : (i : ℕ) → i < angle_count f → vector (first_values f given).numerators i ≡ first_numerator f a b i
  numerator_at i h = get_or_listed (angle_count f) (first_numerator f a b) i (pos 0) h

  misclosure_at : (j : ℕ) → j < condition_count f → vector (first_values f given).misclosures j ≡ misclosure f a b j
  misclosure_at j h = get_or_listed (condition_count f) (misclosure f a b) j (pos 0) h

  stand : BothRules f a b x → Rules f (vector (first_values f given).misclosures) (vector (first_values f given).numerators) x
  stand rules = record {
    below_or_above = λ i h.
        subst (λ (z : ℤ). (x i ≡ floor_quotient z (denominator f)) ⊎ (x i ≡ ceiling_quotient z (denominator f))) (sym (numerator_at i h))
        (rules.below_or_above i h);
    whole_stays = λ i h q e. whole_stays f a b x rules.below_or_above i h q (sym (numerator_at i h) ∙ e);
    rests = λ j h. ap (λ (z : ℤ). z +ℤ condition_sum f x j) (misclosure_at j h) ∙ rules.closed j h;
  }

  stood : Rules f (vector (first_values f given).misclosures) (vector (first_values f given).numerators) x → BothRules f a b x
  stood rules = record {
    below_or_above = λ i h.
        subst (λ (z : ℤ). (x i ≡ floor_quotient z (denominator f)) ⊎ (x i ≡ ceiling_quotient z (denominator f))) (numerator_at i h)
        (rules.below_or_above i h);
    closed = λ j h. ap (λ (z : ℤ). z +ℤ condition_sum f x j) (sym (misclosure_at j h)) ∙ rules.rests j h;
  }

-- what an accepted first pass leaves
module _ (given : FirstGiven) (lent first : FirstLent) (promise : FirstPromise given lent (Ok tt) first) where
  abbrev rows_of : Figure → List Row
  rows_of f = first_rows f given.limit given.angles given.rounds given.fixed (first_lengths_lent given lent)

  accepted : OfFigure given.code given.n rows_of
  unfolding first_pass_verdict first_pass_rows
  accepted = of_figure given.code given.n rows_of (sym promise.answered)

  left : first ≡ first_values accepted.figure given
  left =
      promise.leaves
      ∙ ap₂ (λ (m : Option Figure) (v : Verdict). of_named m lent (λ f. stored v (first_values f given) lent)) accepted.named (sym promise.answered)

  -- one figure is named
  named_once : (f : Figure) → figure_of given.code given.n ≡ Some f → accepted.figure ≡ f
  named_once f named = ap (λ (m : Option Figure). of_named m f (λ g. g)) (sym accepted.named ∙ named)

  left_of : (f : Figure) → figure_of given.code given.n ≡ Some f → first ≡ first_values f given
  left_of f named = left ∙ ap (λ (g : Figure). first_values g given) (named_once f named)

  keeps : (x : List ℤ) (f : Figure) → figure_of given.code given.n ≡ Some f → BothRules f given.angles given.fixed (vector x) → Keeps given first x
  keeps x f named rules g other =
      let same : f ≡ g = ap (λ (m : Option Figure). of_named m f (λ k. k)) (sym named ∙ other) in
      subst (λ (l : FirstLent). Rules g (vector l.misclosures) (vector l.numerators) (vector x)) (sym (left_of g other))
      (stand g given (vector x) (subst (λ (k : Figure). BothRules k given.angles given.fixed (vector x)) same rules))

  kept : (x : List ℤ) (f : Figure) → figure_of given.code given.n ≡ Some f → Keeps given first x → BothRules f given.angles given.fixed (vector x)
  kept x f named rules =
      stood f given (vector x)
      (subst (λ (l : FirstLent). Rules f (vector l.misclosures) (vector l.numerators) (vector x)) (left_of f named) (rules f named))

-- ---- our own choice

-- what an accepted call leaves
chosen_is : (given : FirstGiven) (entry chosen : List ℤ) → ClosingPromise given entry (Ok tt) chosen → (f : Figure) → figure_of given.code given.n ≡ Some f
    → chosen ≡ choice_of f given.angles given.fixed
chosen_is given entry chosen promise f named =
    promise.leaves
    ∙ ap₂ (λ (m : Option Figure) (v : Verdict). of_named m entry (λ g. stored v (choice_of g given.angles given.fixed) entry)) named (sym promise.answered)

pub choice_closes : ChoiceCloses
choice_closes given lent first pass entry chosen promise =
    let ok = accepted given lent first pass in
    let f : Figure = ok.figure in
    keeps given lent first pass chosen f ok.named
    (subst (λ (x : List ℤ). BothRules f given.angles given.fixed (vector x)) (sym (chosen_is given entry chosen promise f ok.named))
    (choice_keeps_rules f given.angles given.fixed))

pub refuses_as_the_first_pass : RefusesAsTheFirstPass
refuses_as_the_first_pass given lent first pass is entry exit answer promise fitting =
    promise.answered ∙ as_the_first_pass given lent entry fitting ∙ sym is.answered

pub never_fifteen_answered : NeverFifteen
never_fifteen_answered given entry exit answer promise p e = never_fifteen given entry p (ap verdict_told (sym promise.answered) ∙ e)

-- ---- the check

same_verdict : (r : Refusal) → ◌≡◌ {A = Verdict} (Err r) (Ok tt) → ⊥
same_verdict r e = let z : ◌≡◌ {A = ℕ} 0 1 = cc in absurd (omega arith)

-- by what the first pass answers, told apart
module _ (given : FirstGiven) (lent first : FirstLent) (offered : List ℤ) (fitting : Fitting given lent offered) where
  abbrev answer_is : Verdict
  answer_is = check_answer given offered

  abbrev KeepsRules : Type 0
  KeepsRules = Keeps given first offered

  by_pass : (pass : Verdict) → FirstPromise given lent pass first
      → CheckSays (Ok tt) (Err Refusal.ChoiceDoesNotClose) pass answer_is KeepsRules
  by_pass (Ok tt) is =
      let ok = accepted given lent first is in
      let f : Figure = ok.figure in
      let passes = check_passes given lent offered fitting (sym is.answered) f ok.named in
      let fails = check_fails given lent offered fitting (sym is.answered) f ok.named in
      record {
        accepts = (
          λ e. (refl, keeps given lent first is offered f ok.named (passes.0 e)),
          λ both. passes.1 (kept given lent first is offered f ok.named both.1),
        );
        refuses = (
          λ e. (refl, λ rules. fails.0 e (kept given lent first is offered f ok.named rules)),
          λ both. fails.1 (λ rules. both.1 (keeps given lent first is offered f ok.named rules)),
        );
        before_fifteen = λ refused. absurd (refused refl);
      }
  by_pass (Err r) is =
      let same = check_as_refused given lent offered fitting r (sym is.answered) in
      record {
        accepts = (λ e. absurd (same_verdict r (sym same ∙ e)), λ both. absurd (same_verdict r both.0));
        refuses = (
          λ e. absurd (never_fifteen given offered 0 (ap verdict_told (as_the_first_pass given lent offered fitting ∙ sym is.answered ∙ sym same ∙ e))),
          λ both. absurd (same_verdict r both.0),
        );
        before_fifteen = λ refused. same;
      }

pub check_is_exact : CheckIsExact
check_is_exact given lent first pass is offered answer e fitting =
    subst (λ (v : Verdict). CheckSays (Ok tt) (Err Refusal.ChoiceDoesNotClose) pass v (Keeps given first offered)) (sym e)
    (by_pass given lent first offered fitting pass is)

pub check_accepts_the_choice : CheckAcceptsTheChoice
check_accepts_the_choice given entry chosen promise answer e =
    let ok = of_figure given.code given.n (λ f. closing_rows_for f given.limit given.angles given.rounds given.fixed (length entry)) (sym promise.answered) in
    e ∙ ap (check_answer given) (chosen_is given entry chosen promise ok.figure ok.named)
    ∙ own_choice_passes given entry ok.figure ok.named (sym promise.answered)

-- ---- the same for C

-- what C is told, as the promise of the operation itself
first_told : (given : FirstGiven) (lent first : FirstLent) (pass : ℕ) → FirstPassPromise given lent pass first → FirstPromise given lent (first_answer given lent) first
unfolding first_pass_verdict
first_told given lent first pass promise = record { answered = refl; leaves = promise.leaves }

closing_told : (given : FirstGiven) (entry exit : List ℤ) (answer : ℕ) → ClosingPassPromise given entry answer exit
    → ClosingPromise given entry (closing_answer given entry) exit
closing_told given entry exit answer promise = record { answered = refl; leaves = promise.leaves }

first_passed : (given : FirstGiven) (lent : FirstLent) → answer_by (first_rows_of given lent) ≡ 0 → first_answer given lent ≡ Ok tt
unfolding first_pass_verdict
first_passed given lent e =
    answered_done (first_rows_of given lent)
    (first_in_table given.code given.n given.limit given.angles given.rounds given.fixed (first_lengths_lent given lent)) (first_within given lent) e

closing_passed : (given : FirstGiven) (entry : List ℤ) → answer_by (closing_rows given entry) ≡ 0 → closing_answer given entry ≡ Ok tt
closing_passed given entry e = answered_done (closing_rows given entry) (closing_in_table given entry) (closing_within given entry) e

pub choice_closes_c : ChoiceClosesC
choice_closes_c given lent first pass entry chosen promise =
    choice_closes given lent first
    (subst (λ (v : Verdict). FirstPromise given lent v first) (first_passed given lent (sym pass.answered)) (first_told given lent first 0 pass)) entry chosen
    (subst (λ (v : Verdict). ClosingPromise given entry v chosen) (closing_passed given entry (sym promise.answered)) (closing_told given entry chosen 0 promise))

abbrev number : Verdict → ℕ
number v = answer_number (verdict_told v)

pub refuses_as_the_first_pass_c : RefusesAsTheFirstPassC
unfolding first_pass_verdict
refuses_as_the_first_pass_c given lent first pass is entry exit answer promise fitting =
    promise.answered ∙ ap number (as_the_first_pass given lent entry fitting) ∙ sym is.answered

pub never_fifteen_c : NeverFifteenC
never_fifteen_c given entry exit answer promise p e =
    never_fifteen given entry p
    (sym (answer_tells (closing_rows given entry) (closing_in_table given entry) (closing_within given entry) promise.answered) ∙ e)

fifteen_is : number (Err Refusal.ChoiceDoesNotClose) ≡ 15 * place_step
unfolding answer_number
fifteen_is = refl

fifteen_told : answer_told (15 * place_step) ≡ told 15 0
unfolding answer_told
fifteen_told = refl

module _ (given : FirstGiven) (lent first : FirstLent) (offered : List ℤ) (fitting : Fitting given lent offered) where
  -- where 15 is told, it is this refusal
  only_this : (pass : Verdict) → FirstPromise given lent pass first → verdict_told (check_answer given offered) ≡ told 15 0
      → check_answer given offered ≡ Err Refusal.ChoiceDoesNotClose
  only_this (Ok tt) is e =
      let ok = accepted given lent first is in
      ⊎_elim (λ (passed : check_answer given offered ≡ Ok tt). let z : ◌≡◌ {A = ℕ} 0 15 = ap (λ (t : Told). t.number) (sym (ap verdict_told passed) ∙ e) in absurd (omega arith))
      (λ refused. refused) (check_either given lent offered fitting (sym is.answered) ok.figure ok.named)
  only_this (Err r) is e =
      absurd (never_fifteen given offered 0
      (ap verdict_told (as_the_first_pass given lent offered fitting ∙ sym is.answered ∙ sym (check_as_refused given lent offered fitting r (sym is.answered))) ∙ e))

pub check_is_exact_c : CheckIsExactC
unfolding first_pass_verdict
check_is_exact_c given lent first pass is offered answer e fitting =
    let promise = first_told given lent first pass is in
    let v : Verdict = first_answer given lent in
    let own : Verdict = check_answer given offered in
    let says = by_pass given lent first offered fitting v promise in
    let passed : pass ≡ 0 → v ≡ Ok tt = λ none. first_passed given lent (sym is.answered ∙ none) in
    let done : v ≡ Ok tt → pass ≡ 0 = λ ok. is.answered ∙ ap number ok ∙ done_number in
    let tells = answer_tells (check_rows given offered) (check_in_table given offered) (check_within given offered) e in
    record {
      accepts = (
        λ none.
            let both = says.accepts.0 (answered_done (check_rows given offered) (check_in_table given offered) (check_within given offered) (sym e ∙ none)) in
            (done both.0, both.1),
        λ both. e ∙ ap number (says.accepts.1 (passed both.0, both.1)) ∙ done_number,
      );
      refuses = (
        λ fifteen.
            let both = says.refuses.0 (only_this given lent first offered fitting v promise (sym tells ∙ ap answer_told fifteen ∙ fifteen_told)) in
            (done both.0, both.1),
        λ both. e ∙ ap number (says.refuses.1 (passed both.0, both.1)) ∙ fifteen_is,
      );
      before_fifteen = λ refused. e ∙ ap number (says.before_fifteen (λ ok. refused (done ok))) ∙ sym is.answered;
    }

pub check_accepts_the_choice_c : CheckAcceptsTheChoiceC
check_accepts_the_choice_c given entry chosen promise answer e =
    e ∙ ap number (check_accepts_the_choice given entry chosen
    (subst (λ (v : Verdict). ClosingPromise given entry v chosen) (closing_passed given entry (sym promise.answered)) (closing_told given entry chosen 0 promise))
    (check_answer given chosen) refl) ∙ done_number
