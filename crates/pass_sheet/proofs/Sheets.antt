-- From what a pass promises to the text of its sheet. Assumes nothing.
use Rattle.std.specs.Prelude.{Err, Ok}
use Rattle.pass_rules.specs.SecondPass.{SecondAnswer, done_with}
use Rattle.std.specs.Prelude.{Err, Ok}
use Rattle.refusals.specs.Numbers.{Verdict}
use Rattle.std.specs.Prelude.{Bool, true, false, ◌≡◌, List, ◌∷◌, ℕ, ◌/◌, ◌%◌, ◌^◌, T, ℤ, pos, nat_abs, length}
use Rattle.vocabulary.specs.{sym, ap, ◌∙◌, subst}
use Rattle.whole.specs.Sums.{vector, naturals}
use Rattle.whole.proofs.Order.{natural}
use Rattle.wide.specs.Wide.{radix}
use Rattle.wide_words.specs.Words.{joined, high_word, low_word}
use Rattle.wide_words.proofs.Joining.{joined_words}
use Rattle.refusals.specs.{declared.Refusal.Refusal, Order.judged, Promise.stored}
use Rattle.figures.specs.{declared.Figure.Figure, Figure.angle_count}
use Rattle.lines.specs.Lines.{first_text, second_text, refused_text, wide_numbers}
use Rattle.lines.proofs.WideNumbers.{wide_listed}
use Rattle.pass_rules.specs.{FirstPass.first_rows, FirstPass.first_result_lengths}
use Rattle.pass_rules.specs.SecondPass.{SineEntries, sine_misclosure, side_misclosure, divisor, second_numerator, second_rows, second_result_lengths, second_answer_for, reduced_of, side_reduced_of, second_rounded_of, adjusted_of, second_rests_of}
use Rattle.pass_rules.specs.Promises.{FirstLent, first_results_lent, first_values_of, FirstPromiseOf, SecondLent, second_results_lent, second_values_of, second_verdict_of, SecondPromiseOf}
use Rattle.pass_rules.proofs.SecondLaws.{divisor_natural}
use Rattle.std.specs.Prelude.{[], ◌≤◌, cond, get_or, take, replicate}
use Rattle.vocabulary.specs.{arith, zero-le, length-take-le}
use Rattle.figures.specs.{declared.Counts.Counts, Figure.condition_count, Figure.counts_of, Figure.has_side}
use Rattle.figures.proofs.Figures.{angle_bound, condition_bound}
use Rattle.pass_rules.specs.{Promises.first_lent, Promises.second_lent, SecondPass.side_reduced_count}
use Rattle.vocabulary.specs.{ap₂}
use Rattle.sheet_layout.specs.{declared.Kind.Kind, declared.Lengths.Lengths, declared.Pass.Pass, Kinds.pass_of, Kinds.default_of, Layout.lengths_of}
use Rattle.sheet_rules.specs.{declared.ReadHead.ReadHead, Sheet.Reading, Sheet.values_read, Lent.Slices, Lent.slices, Lent.slices_of, Lent.lengths_lent}
use Rattle.sheet_rules.specs.Judging.{own_lengths, body_rows, reading_after, after_reading}
use Rattle.sheet_reader.specs.Parts.{BodyPromise}
use Rattle.pass_rules.specs.{Pass.in_force, SecondPass.sine_entries}
use Rattle.pass_sheet.proofs.SheetBounds.{angles_few, fixed_few, log_sines_few, log_sides_few}
use Rattle.pass_sheet.specs.Texts.{text_of}
use Rattle.pass_sheet.specs.Worked.{worked_read, worked_body, worked_slices, worked_pass, shown_if, first_shown, first_sheet_lengths, first_sheet, second_shown, second_sheet_lengths, second_sheet}

-- ---- arrays of the largest counts, lent as far as the figure's own

abbrev zeros : ℕ → List ℤ
zeros = λ n. replicate n (pos 0)

abbrev naughts : List ℕ
naughts = replicate 24 0

pub first_room : (f : Figure) (counts : Counts) → counts ≡ counts_of f
    → first_results_lent (first_lent (take counts.conditions (zeros 9)) (take counts.angles (zeros 24)) (take counts.angles (zeros 24))
    (take counts.angles naughts) (take counts.angles naughts) (take counts.conditions (zeros 9)))
    ≡ first_result_lengths f
first_room f counts own =
    let n : counts.angles ≡ angle_count f = ap (λ (c : Counts). c.angles) own in
    let m : counts.conditions ≡ condition_count f = ap (λ (c : Counts). c.conditions) own in
    let angles = length-take-le {A = ℤ} counts.angles (zeros 24) (omega (arith, n, angle_bound f)) ∙ n in
    let naturals = length-take-le {A = ℕ} counts.angles naughts (omega (arith, n, angle_bound f)) ∙ n in
    let conditions = length-take-le {A = ℤ} counts.conditions (zeros 9) (omega (arith, m, condition_bound f)) ∙ m in
    λ i. conditions i ∷ angles i ∷ angles i ∷ naturals i ∷ naturals i ∷ conditions i ∷ []

-- no more coefficients of the side condition than angles
side_bound : (f : Figure) → side_reduced_count f ≤ 24
side_bound f = go (has_side f)
  where
    go : (t : Bool) → cond t (angle_count f) 0 ≤ 24
    go true = angle_bound f
    go false = zero-le

pub second_room : (f : Figure) (lengths : List ℕ) → lengths ≡ second_result_lengths f
    → second_results_lent (second_lent (take (get_or lengths 0 0) (zeros 24)) (take (get_or lengths 1 0) (zeros 24)) (take (get_or lengths 0 0) (zeros 24))
    (take (get_or lengths 0 0) naughts) (take (get_or lengths 0 0) (zeros 24)) (take (get_or lengths 0 0) naughts) (take (get_or lengths 0 0) naughts)
    (take (get_or lengths 7 0) (zeros 9)))
    ≡ second_result_lengths f
second_room f lengths own =
    let n : get_or lengths 0 0 ≡ angle_count f = ap (λ (l : List ℕ). get_or l 0 0) own in
    let k : get_or lengths 1 0 ≡ side_reduced_count f = ap (λ (l : List ℕ). get_or l 1 0) own in
    let m : get_or lengths 7 0 ≡ condition_count f = ap (λ (l : List ℕ). get_or l 7 0) own in
    let angles = length-take-le {A = ℤ} (get_or lengths 0 0) (zeros 24) (omega (arith, n, angle_bound f)) ∙ n in
    let naturals = length-take-le {A = ℕ} (get_or lengths 0 0) naughts (omega (arith, n, angle_bound f)) ∙ n in
    let side = length-take-le {A = ℤ} (get_or lengths 1 0) (zeros 24) (omega (arith, k, side_bound f)) ∙ k in
    let conditions = length-take-le {A = ℤ} (get_or lengths 7 0) (zeros 9) (omega (arith, m, condition_bound f)) ∙ m in
    λ i. angles i ∷ side i ∷ angles i ∷ naturals i ∷ angles i ∷ naturals i ∷ naturals i ∷ conditions i ∷ []

module _ (f : Figure) (limit : ℕ) (angles rounds fixed : List ℕ) (entry exit : FirstLent) (answer : Verdict)
    (promise : FirstPromiseOf f limit angles rounds fixed entry answer exit) (lengths : first_results_lent entry ≡ first_result_lengths f) where
  verdict_is : answer ≡ judged (first_rows f limit angles rounds fixed (first_sheet_lengths f angles rounds fixed))
  verdict_is = promise.answered ∙ ap (λ (l : List ℕ). judged (first_rows f limit angles rounds fixed (length angles ∷ length rounds ∷ length fixed ∷ l))) lengths

  pub first_refused : (r : Refusal) → answer ≡ Err r → refused_text r ≡ text_of (first_sheet f limit angles rounds fixed)
  unfolding text_of first_sheet
  first_refused r e = ap (λ (v : Verdict). text_of (shown_if v (first_shown f angles rounds fixed))) (sym e ∙ verdict_is)

  pub first_worked : answer ≡ Ok tt
      → first_text f (naturals angles) (naturals exit.corrected_rounds) (vector exit.numerators) (vector exit.rounded) (naturals exit.corrected) (vector exit.misclosures) (vector exit.rests)
      ≡ text_of (first_sheet f limit angles rounds fixed)
  unfolding text_of first_sheet
  first_worked e =
      ap (λ (x : FirstLent). first_text f (naturals angles) (naturals x.corrected_rounds) (vector x.numerators) (vector x.rounded) (naturals x.corrected) (vector x.misclosures) (vector x.rests))
      (promise.leaves ∙ ap (λ (v : Verdict). stored v (first_values_of f angles rounds fixed) entry) (sym promise.answered ∙ e))
      ∙ ap (λ (v : Verdict). text_of (shown_if v (first_shown f angles rounds fixed))) (sym e ∙ verdict_is)

same_refusal : {q r : Refusal} → ◌≡◌ {A = SecondAnswer} (Err q) (Err r) → q ≡ r
same_refusal e = cc

-- the parts of an answer
told_w : SecondAnswer → ℤ
told_w (Ok sums) = sums.misclosure
told_w (Err r) = pos 0

told_side : SecondAnswer → ℤ
told_side (Ok sums) = sums.side_misclosure
told_side (Err r) = pos 0

told_divisor : SecondAnswer → ℤ
told_divisor (Ok sums) = joined (pos sums.divisor_high) sums.divisor_low
told_divisor (Err r) = pos 0

is_done : SecondAnswer → Bool
is_done (Ok sums) = true
is_done (Err r) = false

not_both : {w sideW : ℤ} {high low : ℕ} {r : Refusal} → done_with w sideW high low ≡ Err r → ⊥
unfolding is_done
not_both e = subst (λ (a : SecondAnswer). T (is_done a)) e tt

-- the words of S or the determinant are worth it
divisor_joined : (f : Figure) (e : SineEntries) → joined (pos (nat_abs (divisor f e) / 2 ^ 64)) (nat_abs (divisor f e) % 2 ^ 64) ≡ divisor f e
unfolding high_word low_word radix
divisor_joined f e = joined_words (pos (nat_abs (divisor f e))) ∙ sym (natural (divisor f e) (divisor_natural f e))

module _ (f : Figure) (tolerance : ℕ) (angles rounds : List ℕ) (e : SineEntries) (entry exit : SecondLent) (answer : SecondAnswer)
    (promise : SecondPromiseOf f tolerance angles rounds e entry answer exit) (lengths : second_results_lent entry ≡ second_result_lengths f) where
  abbrev verdict : Verdict
  verdict = second_verdict_of f tolerance angles rounds e entry

  own_verdict : verdict ≡ judged (second_rows f tolerance angles rounds e (second_sheet_lengths f angles rounds e))
  own_verdict =
      ap (λ (l : List ℕ). judged (second_rows f tolerance angles rounds e (length angles ∷ length rounds ∷ length e.log_sines ∷ length e.differences ∷ length e.log_sides ∷ l)))
      lengths

  pub second_refused : (r : Refusal) → answer ≡ Err r → refused_text r ≡ text_of (second_sheet f tolerance angles rounds e)
  unfolding text_of second_sheet
  second_refused r is = go verdict (sym promise.answered ∙ is) ∙ ap (λ (v : Verdict). text_of (shown_if v (second_shown f angles rounds e))) own_verdict
    where
      go : (v : Verdict) → second_answer_for f e v ≡ Err r → refused_text r ≡ text_of (shown_if v (second_shown f angles rounds e))
      go (Ok tt) told = absurd (not_both told)
      go (Err q) told = ap refused_text (sym (same_refusal told))

  abbrev text_with : (w sideW over : ℤ) → SecondLent → List ℕ
  text_with w sideW over x =
      second_text f w sideW over (naturals angles) (naturals x.adjusted_rounds) (vector x.reduced) (vector x.side_reduced) (wide_numbers x.high_numerators x.low_numerators)
      (vector x.rounded) (naturals x.adjusted) (vector x.rests)

  pub second_worked : {w sideW : ℤ} {high low : ℕ} → answer ≡ done_with w sideW high low → text_with w sideW (joined (pos high) low) exit ≡ text_of (second_sheet f tolerance angles rounds e)
  unfolding text_of second_sheet told_w told_side told_divisor
  second_worked {w} {sideW} {high} {low} is =
      ap (text_with w sideW (joined (pos high) low)) promise.leaves ∙ go verdict (sym promise.answered ∙ is)
      ∙ ap (λ (v : Verdict). text_of (shown_if v (second_shown f angles rounds e))) own_verdict
    where
      go : (v : Verdict) → second_answer_for f e v ≡ done_with w sideW high low
          → text_with w sideW (joined (pos high) low) (stored v (second_values_of f angles rounds e) entry) ≡ text_of (shown_if v (second_shown f angles rounds e))
      go (Ok tt) told =
          (λ i. text_with (sym (ap told_w told) i) (sym (ap told_side told) i) ((sym (ap told_divisor told) ∙ divisor_joined f e) i) (second_values_of f angles rounds e))
          ∙ ap (λ (numerators : ℕ → ℤ). second_text f (sine_misclosure f e) (side_misclosure f e) (divisor f e) (naturals angles) (naturals rounds) (vector (reduced_of f e))
          (vector (side_reduced_of f e)) numerators (vector (second_rounded_of f e)) (naturals (adjusted_of f angles e)) (vector (second_rests_of f e)))
          (wide_listed (angle_count f) (second_numerator f e))
      go (Err q) told = absurd (not_both (sym told))

-- ---- from what the reader promises to what is worked

module _ (kind : Kind) (f : Figure) (sheet : List ℕ) (lent left : Slices) (reading : Reading)
    (promise : BodyPromise kind f sheet lent reading left) (lengths : lengths_lent lent ≡ own_lengths kind f) where
  reading_is : reading ≡ reading_after (judged (body_rows kind f sheet (own_lengths kind f))) kind f sheet
  reading_is = promise.answered ∙ ap (λ (l : List ℕ). reading_after (judged (body_rows kind f sheet l)) kind f sheet) lengths

  pub body_refused : (r : Refusal) → reading ≡ Err r → refused_text r ≡ text_of (worked_body kind f sheet)
  unfolding text_of
  body_refused r e = ap (λ (q : Reading). text_of (worked_read q sheet)) (sym e ∙ reading_is)

  pub body_read : (read : ReadHead) → reading ≡ Ok read → text_of (worked_slices read left) ≡ text_of (worked_body kind f sheet)
  body_read read e =
      ap (λ (s : Slices). text_of (worked_slices read s))
      (promise.leaves ∙ ap (λ (q : Reading). after_reading q (λ k g. slices_of (values_read k g sheet)) lent) (sym promise.answered ∙ e))
      ∙ ap (λ (q : Reading). text_of (worked_read q sheet)) (sym e ∙ reading_is)

-- arrays of the largest counts, lent as far as the kind's and the figure's own
pub sheet_room : (kind : Kind) (f : Figure) (lengths : Lengths) → lengths ≡ lengths_of kind f
    → lengths_lent (slices (take lengths.angles naughts) (take lengths.rounds naughts) (take lengths.fixed (replicate 4 0))
    (take lengths.log_sines naughts) (take lengths.differences (zeros 24)) (take lengths.log_sides (replicate 2 0)))
    ≡ own_lengths kind f
sheet_room kind f lengths own =
    let angles = length-take-le {A = ℕ} lengths.angles naughts (rw own (angles_few kind f)) in
    let rounds = length-take-le {A = ℕ} lengths.rounds naughts (rw own (angles_few kind f)) in
    let fixed = length-take-le {A = ℕ} lengths.fixed (replicate 4 0) (rw own (fixed_few kind f)) in
    let log_sines = length-take-le {A = ℕ} lengths.log_sines naughts (rw own (log_sines_few kind f)) in
    let differences = length-take-le {A = ℤ} lengths.differences (zeros 24) (rw own (log_sines_few kind f)) in
    let log_sides = length-take-le {A = ℕ} lengths.log_sides (replicate 2 0) (rw own (log_sides_few kind f)) in
    (λ i. angles i ∷ rounds i ∷ fixed i ∷ log_sines i ∷ differences i ∷ log_sides i ∷ [])
    ∙ ap (λ (l : Lengths). l.angles ∷ l.rounds ∷ l.fixed ∷ l.log_sines ∷ l.differences ∷ l.log_sides ∷ []) own

-- ---- the pass of a kind, with L or e in force

pub by_kind : (read : ReadHead) (s : Slices) {pass told : Pass} {default bound : ℕ}
    → pass ≡ pass_of read.kind → pass ≡ told → default ≡ default_of read.kind → bound ≡ in_force default read.limit_or_tolerance
    → text_of (worked_pass told read.figure bound s.angles s.rounds s.fixed (sine_entries s.log_sines s.differences s.log_sides))
    ≡ text_of (worked_slices read s)
by_kind read s own is default_is bound_is =
    ap₂ (λ (p : Pass) (l : ℕ). text_of (worked_pass p read.figure l s.angles s.rounds s.fixed (sine_entries s.log_sines s.differences s.log_sides)))
    (sym is ∙ own) (bound_is ∙ ap (λ (d : ℕ). in_force d read.limit_or_tolerance) default_is)
