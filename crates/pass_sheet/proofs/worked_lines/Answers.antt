use Rattle.std.proofs.Common.{◌≡◌, List, ℕ, ◌∙◌}
use Rattle.vocabulary.specs.{sym, subst}
use Rattle.figures.specs.declared.Figure.{Figure}
use Rattle.sheet_layout.specs.{declared.Kind.Kind, Head.Look, Head.headed, Head.look_of}
use Rattle.text.specs.Holds.{Holds}
use Rattle.sheet_rules.specs.{Sheet.Reading, Judging.own_lengths}
use Rattle.sheet_rules.proofs.Accepted.{head_found}
use Rattle.pass_sheet.specs.{Texts.text_of, Texts.worked_text, Worked.worked_read, Worked.worked_body, Worked.worked_look, Worked.worked_of}
use Rattle.pass_sheet.proofs.worked_lines.Goals as goal

-- the text goes by the look
module _ (sheet : List ℕ) (found : Look) (told : look_of sheet ≡ found) {start buffer : List ℕ} {end : ℕ} where
  looked : Holds start (text_of (worked_look found sheet)) buffer end → Holds start (worked_text sheet) buffer end
  unfolding worked_of
  looked held = subst (λ (l : Look). Holds start (text_of (worked_look l sheet)) buffer end) (sym told) held

-- and of a sheet whose head was found, by what was read of it
read_out : (sheet : List ℕ) (kind : Kind) (f : Figure) → look_of sheet ≡ headed kind f → {start buffer : List ℕ} {end : ℕ}
    → Holds start (text_of (worked_body kind f sheet)) buffer end → Holds start (worked_text sheet) buffer end
read_out sheet kind f found {start} {buffer} {end} held =
    looked sheet (headed kind f) found
    (subst (λ (q : Reading). Holds start (text_of (worked_read q sheet)) buffer end) (sym (head_found sheet (own_lengths kind f) kind f found)) held)

pub returns-in-Err : goal.returns-in-Err
unfolding text_of
returns-in-Err c = looked c.args.sheet.now _ (sym c.look_at.ensures ∙ c.in-Err.is) c.refused_lines.ensures

pub returns-in-Ok : goal.returns-in-Ok
returns-in-Ok c = read_out c.args.sheet.now c.in-Ok.head.kind c.in-Ok.head.figure (sym c.look_at.ensures ∙ c.in-Ok.is) c.body_lines.ensures
