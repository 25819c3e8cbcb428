-- the word, the code and n, each with the space after it
use Rattle.std.proofs.Common.{[], ◌∷◌, ℕ, pos, ap, ap₂, ◌∙◌}
use Rattle.text.specs.Text.{decimal}
use Rattle.figures.specs.declared.Name.{Name}
use Rattle.lines.specs.{Lays.line_start, Lines.figure_word}
use Rattle.lines.proofs.Laid.{lays_as, lays_parts, part_start}
use Rattle.lines.proofs.put.put_figure_start.Goals as goal

pub returns : goal.returns
unfolding figure_word
returns c =
    let code = decimal (pos c.from.result) in
    let n = decimal (pos c.from-2.result) in
    lays_as _
    (ap₂ (λ (x y : ℕ). line_start (figure_word ∷ decimal (pos x) ∷ decimal (pos y) ∷ []))
    (c.from.ensures ∙ ap (λ (r : Name). r.code) c.name_of-name.ensures) (c.from-2.ensures ∙ ap (λ (r : Name). r.n) c.name_of-name.ensures))
    (lays_parts _ (figure_word ∷ []) (code ∷ n ∷ []) (part_start figure_word _ c.put_word.ensures)
    (lays_parts _ (code ∷ []) (n ∷ []) (part_start code _ c.put_natural.ensures) (part_start n _ c.put_natural-2.ensures)))
