-- What the two operations promise: document 02, M-104. "Our own operation refuses exactly where the first pass does, by the same number
-- (7 by ordinary rounding), never 15; so does the check, before 15."
use Rattle.std.specs.Prelude.{Some}
use Rattle.refusals.specs.Numbers.{Verdict}
use Rattle.std.specs.Prelude.{ℕ, List, [], ◌∷◌, ◌++◌, ◌≡◌, ℤ, length}
use Rattle.refusals.specs.{Order.Row, Order.judged, Promise.Promised, Promise.stored}
use Rattle.refusals.specs.Table.{figure_row, lengths_row, choice_row}
use Rattle.figures.specs.declared.Figure.{Figure}
use Rattle.figures.specs.Figure.{angle_count, figure_of, figure_names, of_named}
use Rattle.pass_rules.specs.FirstPass.{misclosures_of, numerators_of, first_result_lengths}
use Rattle.pass_rules.specs.Promises.{FirstGiven, FirstLent, first_results_lent}
use Rattle.closing.specs.Rules.{pass_rows, choice_of, tenths_under, tenths_over, rests_left}

-- ---- our own choice: 1, 2, 3, 4, 16, 5, 14, 6, 7

-- of a figure: 2 where the slice of corrections has not the figure's count of angles, and then the first pass's own
unfoldable pub closing_rows_for : Figure → (limit : ℕ) → (angles rounds fixed : List ℕ) → (lent : ℕ) → List Row
closing_rows_for f limit angles rounds fixed lent = lengths_row (lent ∷ []) (angle_count f ∷ []) ∷ pass_rows f limit angles rounds fixed

-- 1, and then those of the figure that code and n name
abbrev pub closing_rows : FirstGiven → (corrections : List ℤ) → List Row
closing_rows given corrections =
    figure_row given.code given.n figure_names
    ∷ of_named (figure_of given.code given.n) [] (λ f. closing_rows_for f given.limit given.angles given.rounds given.fixed (length corrections))

abbrev pub closing_answer : FirstGiven → (corrections : List ℤ) → Verdict
closing_answer given corrections = judged (closing_rows given corrections)

-- the choice where no row holds, and else what was lent
abbrev pub closing_left : FirstGiven → (corrections : List ℤ) → List ℤ
closing_left given corrections =
    of_named (figure_of given.code given.n) corrections
    (λ f. stored (closing_answer given corrections) (choice_of f given.angles given.fixed) corrections)

abbrev pub ClosingPromise : FirstGiven → (entry : List ℤ) → (answer : Verdict) → (exit : List ℤ) → Type 0
ClosingPromise given entry answer exit = Promised (closing_answer given entry) (closing_left given entry) answer exit

-- of a figure that is named already
abbrev pub closing_answer_of : Figure → (limit : ℕ) → (angles rounds fixed : List ℕ) → (corrections : List ℤ) → Verdict
closing_answer_of f limit angles rounds fixed corrections = judged (closing_rows_for f limit angles rounds fixed (length corrections))

abbrev pub ClosingPromiseOf : Figure → (limit : ℕ) → (angles rounds fixed : List ℕ) → (entry : List ℤ) → (answer : Verdict) → (exit : List ℤ) → Type 0
ClosingPromiseOf f limit angles rounds fixed entry answer exit =
    Promised (closing_answer_of f limit angles rounds fixed entry) (stored (closing_answer_of f limit angles rounds fixed entry) (choice_of f angles fixed) entry) answer exit

-- ---- the check of an offered choice: 1, 2, 3, 4, 16, 5, 14, 6, 7, 15

-- 15: one of the two rules is broken
abbrev pub rules_row : Figure → (angles fixed : List ℕ) → (offered : List ℤ) → Row
rules_row f angles fixed offered =
    choice_row (tenths_under f (numerators_of f angles fixed)) (tenths_over f (numerators_of f angles fixed)) offered
    (rests_left f (misclosures_of f angles fixed) offered)

unfoldable pub check_rows_for : Figure → (limit : ℕ) → (angles rounds fixed : List ℕ) → (offered : List ℤ) → List Row
check_rows_for f limit angles rounds fixed offered =
    closing_rows_for f limit angles rounds fixed (length offered) ++ (rules_row f angles fixed offered ∷ [])

abbrev pub check_rows : FirstGiven → (offered : List ℤ) → List Row
check_rows given offered =
    figure_row given.code given.n figure_names
    ∷ of_named (figure_of given.code given.n) [] (λ f. check_rows_for f given.limit given.angles given.rounds given.fixed offered)

abbrev pub check_answer : FirstGiven → (offered : List ℤ) → Verdict
check_answer given offered = judged (check_rows given offered)

abbrev pub check_answer_of : Figure → (limit : ℕ) → (angles rounds fixed : List ℕ) → (offered : List ℤ) → Verdict
check_answer_of f limit angles rounds fixed offered = judged (check_rows_for f limit angles rounds fixed offered)

-- ---- beside the first pass

-- the same sheet given to the first pass: what is lent to both has the lengths of the figure that is named
abbrev pub Fitting : FirstGiven → FirstLent → (corrections : List ℤ) → Type 0
Fitting given lent corrections =
    (f : Figure) → figure_of given.code given.n ≡ Some f → (length corrections ≡ angle_count f) × (first_results_lent lent ≡ first_result_lengths f)
