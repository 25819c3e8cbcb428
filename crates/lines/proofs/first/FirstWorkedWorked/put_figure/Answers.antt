-- the denominator's word and number are laid after the figure's name
use Rattle.std.proofs.Common.{refl, [], ◌∷◌, pos, ap, ◌∙◌}
use Rattle.figures.specs.{declared.Counts.Counts, Figure.denominator}
use Rattle.text.specs.Text.{decimal}
use Rattle.lines.specs.Lines.{denominator_word, figure_named}
use Rattle.lines.proofs.Laid.{lays_as, answered, lays_line, word_line, number_then}
use Rattle.lines.proofs.first.FirstWorkedWorked.put_figure.Goals as goal

pub returns : goal.returns
unfolding denominator_word
returns c =
    let f = c.args.self.now.figure in
    let known = c.from.ensures ∙ ap (λ (r : Counts). pos r.denominator) c.counts_of-counts.ensures in
    lays_line _ (figure_named f []) denominator_word (decimal (pos (denominator f)) ∷ []) c.put_figure_start.ensures
    (lays_as _ (word_line denominator_word (pos (denominator f)) [] (number_then (answered c.from.type_inv known) refl)) c.put_line.ensures)
