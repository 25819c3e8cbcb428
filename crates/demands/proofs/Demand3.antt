-- Demand 3 of the passes, of the same for C, and of a sheet worked from its bytes. Assumes nothing.
use Rattle.pass_rules.specs.SecondPass.{done_with}
use Rattle.std.specs.Prelude.{Ok, Option, Some}
use Rattle.refusals.specs.Numbers.{Verdict}
use Rattle.std.specs.Prelude.{ℕ, map, ◌≡◌, ℤ, pos, get_or}
use Rattle.vocabulary.specs.{⊎_elim, sym, ap, ap₂, subst, ◌∙◌, arith, list-get_or_map}
use Rattle.whole.specs.Sums.{vector}
use Rattle.wide_words.specs.Words.{joined}
use Rattle.refusals.specs.{declared.Refusal.Refusal, Order.judged}
use Rattle.refusals.specs.Promise.{stored}
use Rattle.figures.specs.declared.Figure.{Figure}
use Rattle.figures.specs.Figure.{SineCondition, description, no_sine, figure_of, of_named}
use Rattle.pass_rules.specs.FirstPass.{misclosure, first_rows, first_pass_rows, first_pass_verdict}
use Rattle.pass_rules.specs.SecondPass.{SineEntries, misclosure_in, sine_misclosure, side_misclosure, divisor, second_rows, second_pass_rows, second_pass_verdict}
use Rattle.pass_rules.specs.Promises.{FirstGiven, FirstLent, first_lengths_lent, first_rows_of, FirstPromise, SecondGiven, SecondLent, second_lengths_lent, second_values, SecondPromise}
use Rattle.pass_rules.proofs.{PassRows.one_judged, Refusals.first_in_table, SecondAccepted.accepted, SecondLaws.divisor_natural}
use Rattle.pass_rules.proofs.SineSums.{none_misclosure}
use Rattle.pass_sheet.specs.Worked.{Outcome, First, Second, WorkedSheet, worked_of, second_sheet_lengths, entries_in}
use Rattle.pass_sheet.proofs.ShownAs.{FirstShown, SecondShown, RefusedShown, shown_as}
use Rattle.controller.specs.Promises.{FirstPassPromise, SumsLent, sums_rows, sums_lengths, sums_values, sine_misclosures_of, SecondPassPromise}
use Rattle.controller.proofs.{Answers.answered_done, PlaceBounds.first_within, PlaceBounds.sums_in_table, PlaceBounds.sums_within}
use Rattle.demands.specs.Demand2.{numerators_in}
use Rattle.demands.specs.Demand3.{LeastSquares, HorizonCloses, SineCloses, FirstPass, Horizon, SecondPass, FirstPassC, HorizonC, SecondPassC, FirstSheet, SecondSheet}
use Rattle.demands.proofs.Closing.{are_least_squares, horizon_closes, sine_closes, Exact, exact_closes}
use Rattle.demands.proofs.WorkedValues.{exact, first_numerators, second_numerators, joined_numerators}
use Rattle.demands.proofs.Demand2 as values

-- a code and an n name one figure
pub one_figure : {named : Option Figure} {f g : Figure} → named ≡ Some f → named ≡ Some g → f ≡ g
one_figure e h = cc

-- ---- the first pass

pub first_pass : FirstPass
first_pass given entry exit promise f named =
    let done = values.first_pass given entry exit promise in
    subst (λ (g : Figure). LeastSquares g (vector exit.misclosures) (vector exit.numerators)) (one_figure done.named named)
    (are_least_squares done.figure (vector exit.misclosures) (vector exit.numerators) done.numerators)

-- what C is answered is what the pass answers
pub first_c : (given : FirstGiven) (entry exit : FirstLent) → FirstPassPromise given entry 0 exit → FirstPromise given entry (Ok tt) exit
unfolding first_pass_verdict
first_c given entry exit promise =
    let passed : judged (first_rows_of given entry) ≡ Ok tt =
    answered_done (first_rows_of given entry)
    (first_in_table given.code given.n given.limit given.angles given.rounds given.fixed (first_lengths_lent given entry))
    (first_within given entry) (sym promise.answered) in
    record { answered = sym passed; leaves = promise.leaves }

pub first_pass_c : FirstPassC
first_pass_c given entry exit promise f named = first_pass given entry exit (first_c given entry exit promise) f named

pub horizon : Horizon
unfolding first_pass_verdict first_pass_rows misclosure
horizon given entry exit promise f named two =
    let done = values.first_pass given entry exit promise in
    let same : done.figure ≡ f = one_figure done.named named in
    let rows = one_judged given.code given.n
    (λ g. first_rows g given.limit given.angles given.rounds given.fixed (first_lengths_lent given entry)) done.named in
    subst (λ (g : Figure). HorizonCloses g given.angles (vector exit.misclosures) (vector exit.numerators)) same
    (horizon_closes done.figure given.limit given.angles given.rounds given.fixed _ _ _ (ap (λ (g : Figure). (description g).code) same ∙ two)
    (sym rows ∙ sym promise.answered) done.misclosures done.numerators)

pub horizon_c : HorizonC
horizon_c given entry exit promise f named two = horizon given entry exit (first_c given entry exit promise) f named two

-- ---- the second pass

pub second_exact : (given : SecondGiven) (w sideW : ℤ) (high low : ℕ) (entry exit : SecondLent)
    → SecondPromise given entry (done_with w sideW high low) exit → (f : Figure) → figure_of given.code given.n ≡ Some f
    → Exact f given.entries (numerators_in exit) w sideW (joined (pos high) low)
unfolding second_pass_verdict second_pass_rows
second_exact given w sideW high low entry exit promise f named =
    let e : SineEntries = given.entries in
    let is = values.worked given entry w sideW high low (sym promise.answered) in
    let same : is.figure ≡ f = one_figure is.named named in
    let rows = one_judged given.code given.n
    (λ g. second_rows g given.tolerance given.angles given.rounds e (second_lengths_lent given entry)) named in
    let left : exit ≡ second_values f given =
    promise.leaves ∙ ap₂ (λ (m : Option Figure) (v : Verdict). of_named m entry (λ g. stored v (second_values g given) entry)) named is.passed in
    record {
      numerators_are = λ i h. ap (λ (lent : SecondLent). numerators_in lent i) left ∙ joined_numerators f e i ∙ second_numerators f e i h;
      w_is = ap (λ (g : Figure). sine_misclosure g e) (sym same) ∙ is.w_is;
      side_w_is = ap (λ (g : Figure). side_misclosure g e) (sym same) ∙ is.side_w_is;
      divisor_is = ap (λ (g : Figure). divisor g e) (sym same) ∙ is.divisor_is;
      divisor_some = (accepted f given.tolerance given.angles given.rounds e (second_lengths_lent given entry) (sym rows ∙ is.passed)).divisor_positive;
    }

pub second_pass : SecondPass
second_pass given w sideW high low entry exit promise f named = exact_closes (second_exact given w sideW high low entry exit promise f named)

-- W of each sine condition by the index; 0 for one that the figure has not
misclosure_at : (f : Figure) (e : SineEntries) (i : ℕ)
    → vector (sine_misclosures_of f e) i ≡ misclosure_in f (get_or (description f).sines i (no_sine f)) e
misclosure_at f e i =
    let own : SineCondition → ℤ = λ c. misclosure_in f c e in
    ap (get_or (map own (description f).sines) i) (sym (none_misclosure f e)) ∙ list-get_or_map own (description f).sines i (no_sine f)

pub second_exact_c : (given : SecondGiven) (entry exit : SumsLent) → SecondPassPromise given entry 0 exit
    → (f : Figure) → figure_of given.code given.n ≡ Some f
    → Exact f given.entries (numerators_in exit.values) (vector exit.misclosures 0) (vector exit.misclosures 1)
    (joined (pos (get_or exit.divisor 0 0)) (get_or exit.divisor 1 0))
unfolding second_pass_rows
second_exact_c given entry exit promise f named =
    let e : SineEntries = given.entries in
    let passed : judged (sums_rows given entry) ≡ Ok tt =
    answered_done (sums_rows given entry) (sums_in_table given entry) (sums_within given entry) (sym promise.answered) in
    let rows = one_judged given.code given.n
    (λ g. second_rows g given.tolerance given.angles given.rounds e (sums_lengths given entry)) named in
    let left : exit ≡ sums_values f given =
    promise.leaves ∙ ap₂ (λ (m : Option Figure) (v : Verdict). of_named m entry (λ g. stored v (sums_values g given) entry)) named passed in
    let words : SumsLent → ℤ = λ lent. joined (pos (get_or lent.divisor 0 0)) (get_or lent.divisor 1 0) in
    record {
      numerators_are = λ i h. ap (λ (lent : SumsLent). numerators_in lent.values i) left ∙ joined_numerators f e i ∙ second_numerators f e i h;
      w_is = sym (ap (λ (lent : SumsLent). vector lent.misclosures 0) left ∙ misclosure_at f e 0);
      side_w_is = sym (ap (λ (lent : SumsLent). vector lent.misclosures 1) left ∙ misclosure_at f e 1);
      divisor_is = sym (ap words left ∙ values.natural_joined (divisor f e) (divisor_natural f e));
      divisor_some = (accepted f given.tolerance given.angles given.rounds e (sums_lengths given entry) (sym rows ∙ passed)).divisor_positive;
    }

pub second_pass_c : SecondPassC
second_pass_c given entry exit promise f named = exact_closes (second_exact_c given entry exit promise f named)

-- ---- a sheet worked from its bytes

-- the figure of an outcome
same_first : {f g : Figure} → First f ≡ First g → f ≡ g
same_first e = cc

pub first_sheet_lem : FirstSheet
first_sheet_lem sheet worked is f outcome =
    let outcome-is : (worked_of sheet).outcome ≡ First f = sym (ap (λ (s : WorkedSheet). s.outcome) is) ∙ outcome in
    rw is
    (⊎_elim
    (λ (shown : FirstShown sheet (worked_of sheet)).
    let same : shown.figure ≡ f = same_first (sym (ap (λ (s : WorkedSheet). s.outcome) shown.is) ∙ outcome-is) in
    subst (λ (g : Figure). LeastSquares g (vector (worked_of sheet).misclosures) (vector (worked_of sheet).numerators)) same
    (subst (λ (s : WorkedSheet). LeastSquares shown.figure (vector s.misclosures) (vector s.numerators)) (sym shown.is)
    (are_least_squares shown.figure _ _ (first_numerators shown.figure shown.angles shown.fixed))))
    (⊎_elim
    (λ (shown : SecondShown sheet (worked_of sheet)).
    absurd (not_second (sym (ap (λ (s : WorkedSheet). s.outcome) shown.is) ∙ outcome-is)))
    (λ (shown : RefusedShown (worked_of sheet)).
    absurd (not_refused (sym (ap (λ (s : WorkedSheet). s.outcome) shown.is) ∙ outcome-is))))
    (shown_as sheet))
  where
    not_second : {g h : Figure} {u v s : ℤ} → Second g u v s ≡ First h → ⊥
    not_second e = let z : ◌≡◌ {A = ℕ} 0 1 = cc in omega arith

    not_refused : {r : Refusal} {h : Figure} → Outcome.Refused r ≡ First h → ⊥
    not_refused e = let z : ◌≡◌ {A = ℕ} 0 1 = cc in omega arith

pub second_sheet_lem : SecondSheet
second_sheet_lem sheet worked is f w sideW divided outcome =
    let outcome-is : (worked_of sheet).outcome ≡ Second f w sideW divided = sym (ap (λ (x : WorkedSheet). x.outcome) is) ∙ outcome in
    rw is
    (⊎_elim
    (λ (shown : FirstShown sheet (worked_of sheet)).
    absurd (not_first (sym (ap (λ (x : WorkedSheet). x.outcome) shown.is) ∙ outcome-is)))
    (⊎_elim
    (λ (shown : SecondShown sheet (worked_of sheet)). closes shown (sym (ap (λ (x : WorkedSheet). x.outcome) shown.is) ∙ outcome-is))
    (λ (shown : RefusedShown (worked_of sheet)).
    absurd (not_refused (sym (ap (λ (x : WorkedSheet). x.outcome) shown.is) ∙ outcome-is))))
    (shown_as sheet))
  where
    not_first : {g h : Figure} {u v s : ℤ} → First g ≡ Second h u v s → ⊥
    not_first e = let z : ◌≡◌ {A = ℕ} 0 1 = cc in omega arith

    not_refused : {r : Refusal} {h : Figure} {u v s : ℤ} → Outcome.Refused r ≡ Second h u v s → ⊥
    not_refused e = let z : ◌≡◌ {A = ℕ} 0 1 = cc in omega arith

    closes : (shown : SecondShown sheet (worked_of sheet))
        → Second shown.figure (sine_misclosure shown.figure shown.entries) (side_misclosure shown.figure shown.entries)
        (divisor shown.figure shown.entries) ≡ Second f w sideW divided
        → SineCloses f (entries_in sheet).differences (vector (worked_of sheet).numerators) w sideW divided
    closes shown told =
        let g = shown.figure in
        let e = shown.entries in
        let ok = accepted g shown.tolerance shown.angles shown.rounds e (second_sheet_lengths g shown.angles shown.rounds e) shown.passed in
        let same-figure : g ≡ f = cc in
        let w_is : sine_misclosure g e ≡ w = cc in
        let side_w_is : side_misclosure g e ≡ sideW = cc in
        let divisor_is : divisor g e ≡ divided = cc in
        let own : (ℕ → ℤ) → Type 0 = λ x. SineCloses g e.differences x (sine_misclosure g e) (side_misclosure g e) (divisor g e) in
        let close : own (vector (worked_of sheet).numerators) =
        subst (λ (s : WorkedSheet). own (vector s.numerators)) (sym shown.is)
        (sine_closes g e (exact g e) (second_numerators g e) ok.divisor_positive) in
        rw (shown.held, ← same-figure, ← w_is, ← side_w_is, ← divisor_is) close
