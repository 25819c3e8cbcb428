use Rattle.std.proofs.Common.{List, ℕ, ◌∙◌}
use Rattle.vocabulary.specs.{subst}
use Rattle.text.specs.Holds.{Holds}
use Rattle.pass_sheet.proofs.Sheets.{first_room, first_refused, first_worked}
use Rattle.pass_sheet.proofs.first_sheet.Goals as goal

pub returns-in-Err : goal.returns-in-Err
returns-in-Err c =
    subst (λ (t : List ℕ). Holds c.args.buffer.now t c.refused_lines.new.buffer c.refused_lines.result)
    (first_refused _ _ _ _ _ _ _ _ c.first_pass_of.ensures.promise (first_room _ _ c.counts_of-counts.ensures) _ c.in-Err.is)
    c.refused_lines.ensures

pub returns-in-Ok : goal.returns-in-Ok
returns-in-Ok c =
    subst (λ (t : List ℕ). Holds c.args.buffer.now t c.first_lines.new.buffer c.first_lines.result)
    (c.first_shown.ensures ∙ first_worked _ _ _ _ _ _ _ _ c.first_pass_of.ensures.promise (first_room _ _ c.counts_of-counts.ensures) c.in-Ok.is)
    c.first_lines.ensures
