use Rattle.std.proofs.Common.{List, ℕ, ◌∙◌}
use Rattle.vocabulary.specs.{subst}
use Rattle.text.specs.Holds.{Holds}
use Rattle.pass_sheet.proofs.Sheets.{second_room, second_refused, second_worked}
use Rattle.pass_sheet.proofs.second_sheet.Goals as goal

pub returns-in-Err : goal.returns-in-Err
returns-in-Err c =
    subst (λ (t : List ℕ). Holds c.args.buffer.now t c.refused_lines.new.buffer c.refused_lines.result)
    (second_refused _ _ _ _ _ _ _ _ c.second_pass_of.ensures.promise (second_room _ _ c.second_result_lengths-lengths.ensures) _ c.in-Err.is)
    c.refused_lines.ensures

pub returns-in-Ok : goal.returns-in-Ok
returns-in-Ok c =
    subst (λ (t : List ℕ). Holds c.args.buffer.now t c.second_lines.new.buffer c.second_lines.result)
    (c.second_shown.ensures ∙ second_worked _ _ _ _ _ _ _ _ c.second_pass_of.ensures.promise (second_room _ _ c.second_result_lengths-lengths.ensures) c.in-Ok.is)
    c.second_lines.ensures
