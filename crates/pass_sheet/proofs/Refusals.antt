-- What a sheet worked through is turned back with: the first row that holds of the reader's order and then its pass's. Assumes nothing.
use Rattle.std.specs.Prelude.{Err, Ok}
use Rattle.sheet_layout.specs.Head.{Look, headed}
use Rattle.sheet_rules.specs.Sheet.{Reading}
use Rattle.std.specs.Prelude.{Err, Ok}
use Rattle.refusals.specs.Numbers.{Verdict}
use Rattle.std.specs.Prelude.{ℕ, List, [], ◌++◌, ◌≡◌, refl, T}
use Rattle.vocabulary.specs.{sym, ap, ◌∙◌}
use Rattle.refusals.specs.{Numbers.told, Numbers.verdict_told, Order.Row, Order.all_in_table, Order.judged}
use Rattle.refusals.proofs.InSteps.{judged_after_pass, judged_after_failure}
use Rattle.figures.specs.declared.Figure.{Figure}
use Rattle.sheet_layout.specs.{declared.Kind.Kind, declared.Pass.Pass, Kinds.pass_of, Kinds.default_of}
use Rattle.sheet_layout.specs.{Head.head_rows, Head.look_of, Head.of_head}
use Rattle.sheet_layout.proofs.Naming.{head_verdict, look_judged}
use Rattle.sheet_rules.specs.{Sheet.Values, Sheet.values_read}
use Rattle.sheet_rules.specs.Judging.{own_lengths, body_rows, reading_after}
use Rattle.sheet_rules.proofs.Accepted.{head_found}
use Rattle.pass_rules.specs.{Pass.in_force, FirstPass.first_rows, SecondPass.second_rows}
use Rattle.pass_sheet.specs.Worked.{WorkedSheet, shown_if, first_sheet, second_sheet, entries_of, worked_pass, worked_read, worked_look, worked_of, rows_of_pass, pass_rows, sheet_rows, outcome_told}

-- every row is in the table
pass_known : (pass : Pass) (f : Figure) (limit_or_tolerance : ℕ) (v : Values) → T (all_in_table (rows_of_pass pass f limit_or_tolerance v))
unfolding first_rows second_rows
pass_known Pass.First f limit v = tt
pass_known Pass.Second f tolerance v = tt

body_known : (sheet : List ℕ) (kind : Kind) (f : Figure)
    → T (all_in_table (body_rows kind f sheet (own_lengths kind f) ++ pass_rows kind f (values_read kind f sheet)))
unfolding body_rows
body_known sheet kind f = pass_known (pass_of kind) f _ (values_read kind f sheet)

pub sheet_rows_known : (sheet : List ℕ) → T (all_in_table (sheet_rows sheet))
unfolding sheet_rows head_rows
sheet_rows_known sheet = go (look_of sheet)
  where
    go : (found : Look)
        → T (all_in_table (of_head found []
        (λ kind f. body_rows kind f sheet (own_lengths kind f) ++ pass_rows kind f (values_read kind f sheet))))
    go (Ok head) = body_known sheet head.kind head.figure
    go (Err refusal) = tt

-- what a pass shows tells its verdict
if_told : (verdict : Verdict) (shown : WorkedSheet) → outcome_told shown.outcome ≡ told 0 0
    → outcome_told (shown_if verdict shown).outcome ≡ verdict_told verdict
if_told (Ok tt) shown done = done
if_told (Err refusal) shown done = refl

shown_told : (pass : Pass) (f : Figure) (limit_or_tolerance : ℕ) (v : Values)
    → outcome_told (worked_pass pass f limit_or_tolerance v.angles v.rounds v.fixed (entries_of v)).outcome
    ≡ verdict_told (judged (rows_of_pass pass f limit_or_tolerance v))
unfolding first_sheet second_sheet
shown_told Pass.First f limit v = if_told (judged (rows_of_pass Pass.First f limit v)) _ refl
shown_told Pass.Second f tolerance v = if_told (judged (rows_of_pass Pass.Second f tolerance v)) _ refl

module _ (sheet : List ℕ) where
  abbrev rows_after : Look → List Row
  rows_after found = of_head found [] (λ kind f. body_rows kind f sheet (own_lengths kind f) ++ pass_rows kind f (values_read kind f sheet))

  body_told : (kind : Kind) (f : Figure) (v : Verdict) → judged (body_rows kind f sheet (own_lengths kind f)) ≡ v
      → outcome_told (worked_read (reading_after v kind f sheet) sheet).outcome
      ≡ verdict_told (judged (body_rows kind f sheet (own_lengths kind f) ++ pass_rows kind f (values_read kind f sheet)))
  body_told kind f (Ok tt) e =
      shown_told (pass_of kind) f (in_force (default_of kind) (values_read kind f sheet).limit_or_tolerance) (values_read kind f sheet)
      ∙ sym (ap verdict_told (judged_after_pass (body_rows kind f sheet (own_lengths kind f)) (pass_rows kind f (values_read kind f sheet)) e))
  body_told kind f (Err refusal) e =
      sym (ap verdict_told
      (judged_after_failure (body_rows kind f sheet (own_lengths kind f)) (pass_rows kind f (values_read kind f sheet)) refusal e))

  head_told : (found : Look) → look_of sheet ≡ found
      → outcome_told (worked_look found sheet).outcome ≡ verdict_told (judged (head_rows sheet ++ rows_after found))
  head_told (Ok head) e =
      ap (λ (reading : Reading). outcome_told (worked_read reading sheet).outcome) (head_found sheet (own_lengths head.kind head.figure) head.kind head.figure e)
      ∙ body_told head.kind head.figure (judged (body_rows head.kind head.figure sheet (own_lengths head.kind head.figure))) refl
      ∙ sym (ap verdict_told (judged_after_pass (head_rows sheet) (rows_after (headed head.kind head.figure)) (sym (look_judged sheet) ∙ ap head_verdict e)))
  head_told (Err refusal) e =
      sym (ap verdict_told (judged_after_failure (head_rows sheet) [] refusal (sym (look_judged sheet) ∙ ap head_verdict e)))

  pub worked_told : outcome_told (worked_of sheet).outcome ≡ verdict_told (judged (sheet_rows sheet))
  unfolding worked_of sheet_rows
  worked_told = head_told (look_of sheet) refl
