-- Document 02, M-104, a rounding that closes. "Add an operation that chooses, for each angle, the whole tenth just below or just above its
-- exact first correction (a whole value stays), so that every rest is 0. A small check accepts any offered choice exactly if both rules
-- hold; another gets 15, place 0. Show that for every figure so far such a choice exists: our own operation refuses exactly where the
-- first pass does, by the same number (7 by ordinary rounding), never 15; so does the check, before 15."
--
-- Said of the misclosures and numerators that stand in the slices of a first pass of the same sheet; the exact first correction is
-- numerator / D. `Fitting` (closing/specs/Promises.antt): what is lent to both has the lengths of the figure that is named, else number 2
-- may name either slice. Angles and conditions by their index, counted from 0.
use Rattle.std.specs.Prelude.{Err, Ok, Some}
use Rattle.refusals.specs.Numbers.{Verdict}
use Rattle.std.specs.Prelude.{ℕ, ◌*◌, ◌<◌, List, ◌↔◌, ◌⊎◌, ◌≡◌, ℤ, pos, ◌+ℤ◌, ◌*ℤ◌}
use Rattle.whole.specs.Sums.{vector}
use Rattle.refusals.specs.{declared.Refusal.Refusal, Numbers.told, Numbers.verdict_told}
use Rattle.figures.specs.{declared.Figure.Figure, Numerators.condition_sum}
use Rattle.figures.specs.Figure.{denominator, angle_count, condition_count, figure_of}
use Rattle.pass_rules.specs.Promises.{FirstGiven, FirstLent, FirstPromise}
use Rattle.closing.specs.Floor.{floor_quotient, ceiling_quotient}
use Rattle.closing.specs.Promises.{ClosingPromise, check_rows, check_answer, Fitting}
use Rattle.controller.specs.{Answer.place_step, Answer.answer_told, Promises.answer_by, Promises.FirstPassPromise, Promises.ClosingPassPromise}

-- ---- the two rules, of corrections x

pub record Rules (f : Figure) (misclosures numerators x : ℕ → ℤ) : Type 0 where
  -- "for each angle, the whole tenth just below or just above its exact first correction"
  pub below_or_above : (i : ℕ) → i < angle_count f
      → (x i ≡ floor_quotient (numerators i) (denominator f)) ⊎ (x i ≡ ceiling_quotient (numerators i) (denominator f))
  -- "a whole value stays"
  pub whole_stays : (i : ℕ) → i < angle_count f → (q : ℤ) → numerators i ≡ pos (denominator f) *ℤ q → x i ≡ q
  -- "every rest is 0": the misclosure plus the corrections in the condition
  pub rests : (j : ℕ) → j < condition_count f → misclosures j +ℤ condition_sum f x j ≡ pos 0

-- of corrections in a slice, with what a first pass left
abbrev pub Keeps : FirstGiven → (first : FirstLent) → (x : List ℤ) → Type 0
Keeps given first x =
    (f : Figure) → figure_of given.code given.n ≡ Some f → Rules f (vector first.misclosures) (vector first.numerators) (vector x)

-- ---- our own choice

-- it keeps both rules, for every figure and every sheet that passes
abbrev pub ChoiceCloses : Type 0
ChoiceCloses =
    (given : FirstGiven) (lent first : FirstLent) → FirstPromise given lent (Ok tt) first
    → (entry chosen : List ℤ) → ClosingPromise given entry (Ok tt) chosen → Keeps given first chosen

-- it answers what the first pass answers: done, or the same number and place
abbrev pub RefusesAsTheFirstPass : Type 0
RefusesAsTheFirstPass =
    (given : FirstGiven) (lent first : FirstLent) (pass : Verdict) → FirstPromise given lent pass first
    → (entry exit : List ℤ) (answer : Verdict) → ClosingPromise given entry answer exit → Fitting given lent entry → answer ≡ pass

-- "never 15", whatever is lent
abbrev pub NeverFifteen : Type 0
NeverFifteen =
    (given : FirstGiven) (entry exit : List ℤ) (answer : Verdict) → ClosingPromise given entry answer exit
    → (p : ℕ) → verdict_told answer ≡ told 15 p → ⊥

-- ---- the check

-- what it answers, beside what the first pass answers; `fifteen` is number 15 at place 0
pub record CheckSays {R : Type 0} (done fifteen pass answer : R) (keeps : Type 0) : Type 0 where
  -- "accepts any offered choice exactly if both rules hold"
  pub accepts : (answer ≡ done) ↔ ((pass ≡ done) × keeps)
  -- "another gets 15, place 0"
  pub refuses : (answer ≡ fifteen) ↔ ((pass ≡ done) × (keeps → ⊥))
  -- "refuses exactly where the first pass does, by the same number …; so does the check, before 15"
  pub before_fifteen : (pass ≡ done → ⊥) → answer ≡ pass

abbrev pub CheckIsExact : Type 0
CheckIsExact =
    (given : FirstGiven) (lent first : FirstLent) (pass : Verdict) → FirstPromise given lent pass first
    → (offered : List ℤ) (answer : Verdict) → answer ≡ check_answer given offered → Fitting given lent offered
    → CheckSays (Ok tt) (Err Refusal.ChoiceDoesNotClose) pass answer (Keeps given first offered)

-- it accepts what our own operation chooses
abbrev pub CheckAcceptsTheChoice : Type 0
CheckAcceptsTheChoice =
    (given : FirstGiven) (entry chosen : List ℤ) → ClosingPromise given entry (Ok tt) chosen
    → (answer : Verdict) → answer ≡ check_answer given chosen → answer ≡ Ok tt

-- ---- the same for C: 0 is done, and number 15 at place 0 is 15 × 256

abbrev pub ChoiceClosesC : Type 0
ChoiceClosesC =
    (given : FirstGiven) (lent first : FirstLent) → FirstPassPromise given lent 0 first
    → (entry chosen : List ℤ) → ClosingPassPromise given entry 0 chosen → Keeps given first chosen

abbrev pub RefusesAsTheFirstPassC : Type 0
RefusesAsTheFirstPassC =
    (given : FirstGiven) (lent first : FirstLent) (pass : ℕ) → FirstPassPromise given lent pass first
    → (entry exit : List ℤ) (answer : ℕ) → ClosingPassPromise given entry answer exit → Fitting given lent entry → answer ≡ pass

abbrev pub NeverFifteenC : Type 0
NeverFifteenC =
    (given : FirstGiven) (entry exit : List ℤ) (answer : ℕ) → ClosingPassPromise given entry answer exit
    → (p : ℕ) → answer_told answer ≡ told 15 p → ⊥

abbrev pub CheckIsExactC : Type 0
CheckIsExactC =
    (given : FirstGiven) (lent first : FirstLent) (pass : ℕ) → FirstPassPromise given lent pass first
    → (offered : List ℤ) (answer : ℕ) → answer ≡ answer_by (check_rows given offered) → Fitting given lent offered
    → CheckSays 0 (15 * place_step) pass answer (Keeps given first offered)

abbrev pub CheckAcceptsTheChoiceC : Type 0
CheckAcceptsTheChoiceC =
    (given : FirstGiven) (entry chosen : List ℤ) → ClosingPassPromise given entry 0 chosen
    → (answer : ℕ) → answer ≡ answer_by (check_rows given chosen) → answer ≡ 0
