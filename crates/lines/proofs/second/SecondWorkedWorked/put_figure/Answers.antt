-- its parts are laid one after the other, the divisor last
use Rattle.std.proofs.Common.{[], ◌∷◌, ◌++◌, ℤ, pos, ap, to_z-of_z, w64, FitsSigned, rules}
use Rattle.wide_words.specs.Words.{joined}
use Rattle.figures.specs.Figure.{has_side}
use Rattle.text.specs.Text.{space, line_feed, decimal}
use Rattle.lines.specs.Lines.{w_word, figure_named, divisor_words}
use Rattle.lines.proofs.Laid.{lays_as, lays_parts, lays_line, part_start, part_last}
use Rattle.lines.proofs.second.SecondWorkedWorked.put_figure.Goals as goal

pub returns : goal.returns
unfolding w_word
returns c =
    let a = c.args.self.now in
    let fits : FitsSigned w64 a.misclosure = search rules in
    let w = decimal a.misclosure in
    let words = divisor_words (has_side a.figure) a.side_misclosure in
    let divisor = decimal (joined (pos a.divisor_high) a.divisor_low) in
    lays_line _ (figure_named a.figure (w_word ∷ w ∷ words)) divisor []
    (lays_parts _ (figure_named a.figure []) (w_word ∷ w ∷ words) c.put_figure_start.ensures
    (lays_parts _ (w_word ∷ []) (w ∷ words) (part_start w_word _ c.put_word.ensures)
    (lays_parts _ (w ∷ []) words (part_start w _ (lays_as _ (ap (λ (y : ℤ). decimal y ++ (space ∷ [])) (to_z-of_z {w = w64} fits)) c.put_part.ensures)) c.put_divisor_words.ensures)))
    (part_last divisor _ (lays_as _ (ap (λ (z : ℤ). decimal z ++ (line_feed ∷ [])) c.divisor.ensures) c.put_wide.ensures))
