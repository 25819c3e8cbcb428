use Rattle.std.proofs.Common.{List, ℕ, ◌∙◌}
use Rattle.vocabulary.specs.{subst}
use Rattle.text.specs.Holds.{Holds}
use Rattle.sheet_rules.specs.Lent.{Slices}
use Rattle.pass_sheet.specs.{Texts.text_of, Worked.worked_slices}
use Rattle.vocabulary.specs.{ap}
use Rattle.pass_sheet.proofs.Sheets.{sheet_room, body_refused, body_read}
use Rattle.pass_sheet.proofs.body_lines.Goals as goal

pub returns-in-Err : goal.returns-in-Err
returns-in-Err c =
    subst (λ (t : List ℕ). Holds c.args.buffer.now t c.refused_lines.new.buffer c.refused_lines.result)
    (body_refused _ _ _ _ _ _ c.read_body.ensures.promise (sheet_room _ _ _ c.lengths_of-lengths.ensures) _ c.in-Err.is) c.refused_lines.ensures

pub returns-in-Ok : goal.returns-in-Ok
returns-in-Ok c =
    subst (λ (t : List ℕ). Holds c.args.buffer.now t c.read_lines.new.buffer c.read_lines.result)
    (ap (λ (s : Slices). text_of (worked_slices c.in-Ok.read s)) c.values_of.ensures
    ∙ body_read _ _ _ _ _ _ c.read_body.ensures.promise (sheet_room _ _ _ c.lengths_of-lengths.ensures) _ c.in-Ok.is) c.read_lines.ensures
