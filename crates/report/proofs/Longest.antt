-- No bytes have a longer text than `longest_text`: an accepted pass has numbers of few digits, by the passes' theorems, and no refusal a
-- place past the largest figure's angles. Assumes nothing.
use Rattle.std.specs.Prelude.{◌≡◌, List, ℕ, ◌^◌, ◌≤◌, ◌<◌, length, get_or, ℤ, pos, nat_abs}
use Rattle.vocabulary.specs.{sym, ap, subst, ◌∙◌, ⊎_elim, dec_lt, lt_of_le_of_lt, arith, lit<, list-get_or_eq_default}
use Rattle.whole.specs.{Lists.listed, Sums.vector, Sums.naturals}
use Rattle.whole.proofs.Lists.{get_or_listed, length_listed}
use Rattle.refusals.specs.{declared.Refusal.Refusal, Numbers.place_of, Numbers.Told, Numbers.refusal_told, Numbers.verdict_told, Order.judged}
use Rattle.refusals.specs.Ranges.{most_difference}
use Rattle.refusals.proofs.PlaceBounds.{place_within}
use Rattle.figures.specs.{declared.Figure.Figure, Figure.angle_count, Figure.condition_count, Numerators.most_angles}
use Rattle.pass_rules.specs.FirstPass.{misclosure, first_numerator, first_rounded, corrected, first_rest, misclosures_of, numerators_of, rounded_of, corrected_of, rests_of}
use Rattle.pass_rules.specs.SecondPass.{SineEntries, sine_misclosure, side_misclosure, second_reduced, side_reduced, divisor, second_numerator, second_rounded, second_adjusted, second_rest, reduced_of, side_reduced_count, side_reduced_of, second_rounded_of, adjusted_of, second_rests_of}
use Rattle.pass_steps.specs.Premises.{Within}
use Rattle.pass_first.proofs.FirstBounds.{misclosure_small, first_numerator_small, first_rounded_small, first_rest_small}
use Rattle.pass_second.proofs.AcceptedBounds.{w_few, side_w_few, reduced_few, side_reduced_few, divisor_digits_lem, numerator_digits_lem}
use Rattle.pass_sheet.specs.Texts.{text_of}
use Rattle.pass_sheet.specs.Worked.{WorkedSheet, first_sheet_lengths, second_sheet_lengths, refused_sheet, first_shown, second_shown, worked_of, sheet_rows, outcome_told}
use Rattle.pass_sheet.proofs.Refusals.{sheet_rows_known, worked_told}
use Rattle.pass_sheet.proofs.ShownAs.{FirstShown, SecondShown, RefusedShown, shown_as}
use Rattle.pass_rules.proofs.FirstAccepted as First
use Rattle.pass_rules.proofs.SecondAccepted.{Accepted, accepted, result_most, rounded_most, rest_most}
use Rattle.pass_rules.proofs.WithinRange.{angle_most}
use Rattle.lines.specs.Lines.{longest_text}
use Rattle.report.specs.Report.{report_text}
use Rattle.lines.proofs.Lengths.{Digits, numerator_digits, first_length, second_length, refused_length}
use Rattle.report.proofs.PlaceBounds.{sheet_within}

abbrev Fits : WorkedSheet → Type 0
Fits s = length (text_of s) ≤ longest_text

refused_fits : (refusal : Refusal) → place_of refusal ≤ most_angles → Fits (refused_sheet refusal)
unfolding text_of
refused_fits refusal h = refused_length refusal (omega arith)

-- the digits of what a rule lists
listed_digits : (k : ℕ) (g : ℕ → ℤ) (count : ℕ) → ((i : ℕ) → i < count → nat_abs (g i) < 10 ^ k)
    → Digits k count (vector (listed count g))
listed_digits k g count h i b = subst (λ (z : ℤ). nat_abs z < 10 ^ k) (sym (get_or_listed count g i (pos 0) b)) (h i b)

-- and of what lists only some of them, where 0 stands for the others
some_digits : (k : ℕ) (g : ℕ → ℤ) (some count : ℕ) → 0 < 10 ^ k → ((i : ℕ) → nat_abs (g i) < 10 ^ k)
    → Digits k count (vector (listed some g))
some_digits k g some count room h i b = go (dec_lt i some)
  where
    go : Dec (i < some) → nat_abs (vector (listed some g) i) < 10 ^ k
    go (yes here) = listed_digits k g some (λ l _. h l) i here
    go (no past) =
        subst (λ (z : ℤ). nat_abs z < 10 ^ k)
        (sym (list-get_or_eq_default (listed some g) (pos 0) {n = i} (rw (length_listed some g) (omega arith)))) room

-- of results, which are stored as magnitudes
result_digits : (k : ℕ) (g : ℕ → ℤ) (count : ℕ) → ((i : ℕ) → i < count → nat_abs (g i) < 10 ^ k)
    → Digits k count (naturals (listed count (λ i. nat_abs (g i))))
result_digits k g count h i b = subst (λ (m : ℕ). m < 10 ^ k) (sym (get_or_listed count (λ l. nat_abs (g l)) i 0 b)) (h i b)

-- ---- the first pass

module _ (f : Figure) (limit : ℕ) (angles rounds fixed : List ℕ) where
  module _ (ok : First.Accepted f limit angles rounds fixed (first_sheet_lengths f angles rounds fixed)) where
    first_fits : Fits (first_shown f angles rounds fixed)
    unfolding text_of
    first_fits =
        let lent = first_sheet_lengths f angles rounds fixed in
        let counted : length rounds ≡ angle_count f = ap (λ (l : List ℕ). get_or l 1 0) ok.entries.lengths in
        first_length f (naturals angles) (naturals rounds) (vector (numerators_of f angles fixed)) (vector (rounded_of f angles fixed))
        (naturals (corrected_of f angles fixed)) (vector (misclosures_of f angles fixed)) (vector (rests_of f angles fixed))
        (λ i b. omega (arith, ok.entries.angle_most i))
        (λ i b. omega (arith, ok.entries.rounds_range i (omega (arith, counted, b))))
        (listed_digits 10 (first_numerator f angles fixed) (angle_count f)
        (λ i b. omega (arith, first_numerator_small f limit angles rounds fixed lent ok i)))
        (listed_digits 10 (first_rounded f angles fixed) (angle_count f)
        (λ i b. omega (arith, first_rounded_small f limit angles rounds fixed lent ok i)))
        (result_digits 10 (corrected f angles fixed) (angle_count f)
        (λ i b. omega (arith, angle_most (corrected f angles fixed i) (ok.result_within i b).0 (ok.result_within i b).1)))
        (listed_digits 10 (misclosure f angles fixed) (condition_count f)
        (λ j b. omega (arith, misclosure_small f limit angles rounds fixed lent ok j b)))
        (listed_digits 10 (first_rest f angles fixed) (condition_count f)
        (λ j b. omega (arith, first_rest_small f limit angles rounds fixed lent ok j b)))

-- ---- the second pass

module _ (f : Figure) (tolerance : ℕ) (angles rounds : List ℕ) (e : SineEntries) where
  module _ (ok : Accepted f tolerance angles rounds e (second_sheet_lengths f angles rounds e)) where
    differences_few : Within most_difference e.differences
    differences_few =
        ok.entries.difference_most
        (ap (λ (l : List ℕ). get_or l 3 0) ok.entries.lengths ∙ sym (ap (λ (l : List ℕ). get_or l 2 0) ok.entries.lengths))

    second_fits : Fits (second_shown f angles rounds e)
    unfolding text_of
    second_fits =
        let lent = second_sheet_lengths f angles rounds e in
        let counted : length rounds ≡ angle_count f = ap (λ (l : List ℕ). get_or l 1 0) ok.entries.lengths in
        second_length f (sine_misclosure f e) (side_misclosure f e) (divisor f e)
        (naturals angles) (naturals rounds) (vector (reduced_of f e)) (vector (side_reduced_of f e)) (vector (listed (angle_count f) (second_numerator f e)))
        (vector (second_rounded_of f e)) (naturals (adjusted_of f angles e)) (vector (second_rests_of f e))
        (lt_of_le_of_lt (w_few f tolerance angles rounds e lent ok differences_few) (lit< tt))
        (lt_of_le_of_lt (side_w_few f tolerance angles rounds e lent ok differences_few) (lit< tt))
        (divisor_digits_lem f tolerance angles rounds e lent ok differences_few)
        (λ i b. omega (arith, ok.entries.angle_most i))
        (λ i b. omega (arith, ok.entries.rounds_range i (omega (arith, counted, b))))
        (listed_digits 8 (second_reduced f e) (angle_count f)
        (λ i b. omega (arith, reduced_few f tolerance angles rounds e lent ok differences_few i)))
        (some_digits 8 (side_reduced f e) (side_reduced_count f) (angle_count f) (lit< tt)
        (λ i. omega (arith, side_reduced_few f tolerance angles rounds e lent ok differences_few i)))
        (listed_digits (numerator_digits f) (second_numerator f e) (angle_count f)
        (λ i b. numerator_digits_lem f tolerance angles rounds e lent ok differences_few i))
        (listed_digits 8 (second_rounded f e) (angle_count f) (λ i b. omega (arith, rounded_most f tolerance angles rounds e lent ok i b)))
        (result_digits 7 (second_adjusted f angles e) (angle_count f) (λ i b. omega (arith, result_most f tolerance angles rounds e lent ok i b)))
        (listed_digits 1 (second_rest f e) (condition_count f) (λ j b. omega (arith, rest_most f tolerance angles rounds e lent ok j b)))

-- ---- any bytes

refused_small : (sheet : List ℕ) (refusal : Refusal) → worked_of sheet ≡ refused_sheet refusal → place_of refusal ≤ most_angles
refused_small sheet refusal e =
    let is : refusal_told refusal ≡ verdict_told (judged (sheet_rows sheet)) =
    sym (ap (λ (s : WorkedSheet). outcome_told s.outcome) e) ∙ worked_told sheet in
    subst (λ (t : Told). t.place ≤ most_angles) (sym is)
    (place_within most_angles (sheet_rows sheet) (sheet_rows_known sheet) (sheet_within sheet))

pub text_fits : (sheet : List ℕ) → length (report_text sheet) ≤ longest_text
text_fits sheet =
    ⊎_elim
    (λ (shown : FirstShown sheet (worked_of sheet)).
    subst Fits (sym shown.is) (first_fits shown.figure shown.limit shown.angles shown.rounds shown.fixed
    (First.accepted shown.figure shown.limit shown.angles shown.rounds shown.fixed
    (first_sheet_lengths shown.figure shown.angles shown.rounds shown.fixed) shown.passed)))
    (⊎_elim
    (λ (shown : SecondShown sheet (worked_of sheet)).
    subst Fits (sym shown.is)
    (second_fits shown.figure shown.tolerance shown.angles shown.rounds shown.entries
    (accepted shown.figure shown.tolerance shown.angles shown.rounds shown.entries
    (second_sheet_lengths shown.figure shown.angles shown.rounds shown.entries) shown.passed)))
    (λ (shown : RefusedShown (worked_of sheet)).
    subst Fits (sym shown.is) (refused_fits shown.refusal (refused_small sheet shown.refusal shown.is))))
    (shown_as sheet)
