-- What is printed for any bytes is a page that says so, or the refusal of the sheet's order. Assumes nothing.
use Rattle.std.specs.Prelude.{Some}
use Rattle.std.specs.Prelude.{Ok}
use Rattle.refusals.specs.Numbers.{Verdict}
use Rattle.std.specs.Prelude.{ℕ, ◌<◌, Bool, true, false, List, [], ◌∷◌, ◌↔◌, ◌≡◌, refl, ℤ, pos, nat_abs, ◌+ℤ◌, length, get_or, take, drop}
use Rattle.vocabulary.specs.{inl, inr, ⊎_elim, sym, ap, ap₂, subst, ◌∙◌, arith, take_at}
use Rattle.whole.specs.{Lists.every, Sums.vector, Sums.naturals}
use Rattle.refusals.specs.{Order.Answers, Order.judged, Promise.stored}
use Rattle.refusals.specs.Numbers.{number_of, place_of, Told, told, refusal_told, verdict_told}
use Rattle.refusals.proofs.Rows.{answers_exactly}
use Rattle.text.specs.Text.{decimal, is_word, read_number, read_lines}
use Rattle.text.proofs.{Lines.read_lines_lem, Numbers.decimal_words, Numbers.read_decimal, Tests.and_both}
use Rattle.lines.specs.Lines.{figure_word, refused_word, refused_text, refused_lines}
use Rattle.figures.specs.{declared.Figure.Figure, Figure.angle_count, Figure.condition_count, Figure.has_side, Numerators.condition_sum}
use Rattle.pass_rules.specs.SecondPass.{SineEntries, second_rounded_of, adjusted_of}
use Rattle.pass_rules.proofs.FirstAccepted as First
use Rattle.pass_rules.proofs.SecondAccepted.{Accepted, accepted}
use Rattle.pass_sheet.specs.Worked.{WorkedSheet, first_sheet_lengths, worked_of, second_shown, second_sheet_lengths, outcome_told, sheet_rows, rounds_held}
use Rattle.pass_sheet.specs.Texts.{text_of}
use Rattle.pass_sheet.proofs.Refusals.{sheet_rows_known, worked_told}
use Rattle.pass_sheet.proofs.ShownAs.{FirstShown, SecondShown, RefusedShown, shown_as}
use Rattle.report.specs.Report.{report_text, has_room, reported_of, after_report}
use Rattle.controller.specs.Promises.{TextLent, text_lent, text_laid, report_rows}
use Rattle.controller.proofs.{Answers.answered_done, PlaceBounds.report_within}
use Rattle.demands.specs.Printed.{part, number_on, FirstPage, SinePage, SecondPage, refused_line, Printed, Report, ReportC}
use Rattle.demands.proofs.Closing.{are_least_squares, horizon_closes, sine_closes}
use Rattle.demands.proofs.Pages.{first_page, one_page, two_page, names_of}
use Rattle.demands.proofs.WorkedValues.{first_misclosures, first_numerators, first_rests, first_results, exact, second_numerators, one_squares, one_numerators, two_determinant, two_numerators, second_rests, second_results}

-- ---- a refusal's line

line_read : (k p : ℕ) → read_lines (refused_line k p) ≡ (refused_word ∷ decimal (pos k) ∷ decimal (pos p) ∷ []) ∷ []
unfolding refused_word
line_read k p =
    read_lines_lem ((refused_word ∷ decimal (pos k) ∷ decimal (pos p) ∷ []) ∷ [])
    (and_both (every is_word (refused_word ∷ decimal (pos k) ∷ decimal (pos p) ∷ [])) true (decimal_words (pos k ∷ pos p ∷ [])) tt)

refused_part : (k p place : ℕ) → part (refused_line k p) 0 place ≡ get_or (refused_word ∷ decimal (pos k) ∷ decimal (pos p) ∷ []) place []
refused_part k p place = ap (λ (l : List (List (List ℕ))). get_or (get_or l 0 []) place []) (line_read k p)

-- number and place can be read off it
same_refusal : (k p k' p' : ℕ) → refused_line k p ≡ refused_line k' p' → told k p ≡ told k' p'
same_refusal k p k' p' e = ap₂ told (ap nat_abs (at 1 (pos k) (pos k') refl refl)) (ap nat_abs (at 2 (pos p) (pos p') refl refl))
  where
    at : (place : ℕ) (y z : ℤ)
        → get_or (refused_word ∷ decimal (pos k) ∷ decimal (pos p) ∷ []) place [] ≡ decimal y
        → get_or (refused_word ∷ decimal (pos k') ∷ decimal (pos p') ∷ []) place [] ≡ decimal z → y ≡ z
    at place y z a b =
        sym (ap read_number (refused_part k p place ∙ a) ∙ read_decimal y)
        ∙ ap (λ (t : List ℕ). number_on t 0 place) e
        ∙ (ap read_number (refused_part k' p' place ∙ b) ∙ read_decimal z)

-- no page of a figure begins like it
not_a_figure : (text : List ℕ) (k p : ℕ) → part text 0 0 ≡ figure_word → text ≡ refused_line k p → ⊥
unfolding figure_word refused_word
not_a_figure text k p figure e =
    let clash : figure_word ≡ refused_word = sym figure ∙ ap (λ (t : List ℕ). part t 0 0) e ∙ refused_part k p 0 in
    let first : ◌≡◌ {A = ℕ} 102 114 = ap (λ (word : List ℕ). get_or word 0 0) clash in
    omega arith

-- ---- the pages of a sheet

module _ (sheet : List ℕ) where
  first_printed_lem : (shown : FirstShown sheet (worked_of sheet)) → FirstPage shown.figure (rounds_held sheet) (report_text sheet)
  unfolding text_of
  first_printed_lem shown =
      let f = shown.figure in
      let a = shown.angles in
      let r = shown.rounds in
      let x = shown.fixed in
      let ok = First.accepted f shown.limit a r x (first_sheet_lengths f a r x) shown.passed in
      subst (λ (rounds : List ℕ). FirstPage f rounds (report_text sheet)) (sym shown.rounds_held_lem)
      (subst (λ (s : WorkedSheet). FirstPage f r (text_of s)) (sym shown.is)
      (first_page f _ _ _ _ _ _ _ (are_least_squares f _ _ (first_numerators f a x)).cancel (first_rests f a x)
      (λ i h. first_results f a x i h (ok.result_within i h).0)
      (λ two. (horizon_closes f shown.limit a r x _ _ _ two shown.passed (first_misclosures f a x) (first_numerators f a x)).exact)))

  module _ (shown : SecondShown sheet (worked_of sheet)) where
    abbrev f : Figure
    f = shown.figure

    abbrev a : List ℕ
    a = shown.angles

    abbrev r : List ℕ
    r = shown.rounds

    abbrev e : SineEntries
    e = shown.entries

    ok : Accepted f shown.tolerance a r e (second_sheet_lengths f a r e)
    ok = accepted f shown.tolerance a r e (second_sheet_lengths f a r e) shown.passed

    close : (j : ℕ) → j < condition_count f → condition_sum f (exact f e) j ≡ pos 0
    close = (sine_closes f e (exact f e) (second_numerators f e) ok.divisor_positive).linear

    result : (i : ℕ) → i < angle_count f → naturals a i +ℤ vector (second_rounded_of f e) i ≡ naturals (adjusted_of f a e) i
    result i h = second_results f e a i h (ok.result_within i h).0

    page_of : (side : Bool) → has_side f ≡ side → SinePage side f r (text_of (second_shown f a r e))
    unfolding text_of
    page_of false one =
        one_page f _ _ _ _ _ _ _ _ _ _ _ close (second_rests f e) result one (one_squares f e one) (one_numerators f e one)
    page_of true both =
        two_page f _ _ _ _ _ _ _ _ _ _ _ close (second_rests f e) result both (two_determinant f e both) (two_numerators f e both)

    second_printed_lem : SecondPage f (rounds_held sheet) (report_text sheet)
    second_printed_lem =
        subst (λ (rounds : List ℕ). SecondPage f rounds (report_text sheet)) (sym shown.rounds_held_lem)
        (subst (λ (s : WorkedSheet). SecondPage f r (text_of s)) (sym shown.is) (page_of (has_side f) refl))

  refused_printed_lem : (shown : RefusedShown (worked_of sheet))
      → report_text sheet ≡ refused_line (number_of shown.refusal) (place_of shown.refusal)
  unfolding text_of refused_text refused_lines
  refused_printed_lem shown = ap text_of shown.is

  -- what the order tells is what the outcome tells
  told_as : {t : Told} → outcome_told (worked_of sheet).outcome ≡ t → verdict_told (judged (sheet_rows sheet)) ≡ t
  told_as e = sym (worked_told sheet) ∙ e

  answers_so : (k p : ℕ) → (verdict_told (judged (sheet_rows sheet)) ≡ told k p) ↔ Answers (sheet_rows sheet) k p
  answers_so = answers_exactly (sheet_rows sheet) (sheet_rows_known sheet)

  outcome_told_lem : {s : WorkedSheet} → worked_of sheet ≡ s → outcome_told (worked_of sheet).outcome ≡ outcome_told s.outcome
  outcome_told_lem e = ap (λ (s : WorkedSheet). outcome_told s.outcome) e

  -- a page of a figure is no refusal, and tells 0 at 0
  figure_page : (k p : ℕ) → (k ≡ 0 → ⊥) → part (report_text sheet) 0 0 ≡ figure_word → outcome_told (worked_of sheet).outcome ≡ told 0 0
      → (report_text sheet ≡ refused_line k p) ↔ Answers (sheet_rows sheet) k p
  figure_page k p some figure done = (
    λ e. absurd (not_a_figure (report_text sheet) k p figure e),
    λ says. absurd (some (sym (ap (λ (t : Told). t.number) (sym (told_as done) ∙ (answers_so k p).1 says)))),
  )

  refusal_page : (k p : ℕ) → (shown : RefusedShown (worked_of sheet)) → (report_text sheet ≡ refused_line k p) ↔ Answers (sheet_rows sheet) k p
  refusal_page k p shown =
      let r = shown.refusal in
      let tells : verdict_told (judged (sheet_rows sheet)) ≡ refusal_told r = told_as (outcome_told_lem shown.is) in (
        λ e. (answers_so k p).0 (tells ∙ same_refusal (number_of r) (place_of r) k p (sym (refused_printed_lem shown) ∙ e)),
        λ says.
            refused_printed_lem shown
            ∙ ap (λ (t : Told). refused_line t.number t.place) (sym tells ∙ (answers_so k p).1 says),
      )

  printed : Printed sheet (report_text sheet)
  printed =
      ⊎_elim
      (λ (shown : FirstShown sheet (worked_of sheet)).
      let page = first_printed_lem shown in
      record {
        page = inl (shown.figure, page);
        refused = λ k p some. figure_page k p some page.names.word (outcome_told_lem shown.is);
      })
      (⊎_elim
      (λ (shown : SecondShown sheet (worked_of sheet)).
      let page = second_printed_lem shown in
      let names = names_of (has_side shown.figure) shown.figure (rounds_held sheet) (report_text sheet) page in
      record {
        page = inr (inl (shown.figure, page));
        refused = λ k p some. figure_page k p some names.word (outcome_told_lem shown.is);
      })
      (λ (shown : RefusedShown (worked_of sheet)).
      record {
        page = inr (inr (number_of shown.refusal, place_of shown.refusal, refused_printed_lem shown));
        refused = λ k p some. refusal_page k p shown;
      }))
      (shown_as sheet)

-- ---- of whatever is written

written_text : (room : Bool) (t lent : List ℕ) (count : ℕ) → Some count ≡ reported_of room t → take count (after_report room t lent) ≡ t
written_text true t lent count e =
    let same : length t ≡ count = cc in
    take_at t (drop (length t) lent) count same
written_text false t lent count e = absurd (let z : ◌≡◌ {A = ℕ} 0 1 = cc in omega arith)

pub report : Report
report sheet entry exit count promise =
    subst (Printed sheet)
    (sym (ap (take count) promise.leaves
    ∙ written_text (has_room (report_text sheet) entry) (report_text sheet) entry count promise.answered))
    (printed sheet)

pub report_c : ReportC
report_c sheet entry exit promise count one =
    let passed : judged (report_rows sheet entry) ≡ Ok tt =
    answered_done (report_rows sheet entry) tt (report_within sheet entry) (sym promise.answered) in
    let new : TextLent = text_lent (text_laid sheet entry.text) (length (report_text sheet) ∷ []) in
    let left : exit ≡ new = promise.leaves ∙ ap (λ (v : Verdict). stored v new entry) passed in
    let counted : length (report_text sheet) ≡ count =
    ap (λ (l : List ℕ). get_or l 0 0) (sym (ap (λ (lent : TextLent). lent.written) left) ∙ one) in
    subst (Printed sheet)
    (sym (ap (λ (lent : TextLent). take count lent.text) left
    ∙ take_at (report_text sheet) (drop (length (report_text sheet)) entry.text) count counted))
    (printed sheet)
