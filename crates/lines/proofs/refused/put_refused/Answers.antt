-- the word, the number and the place make the text
use Rattle.std.proofs.Common.{[], ◌∷◌, ◌++◌, ℕ, pos, ap₂, ◌∙◌}
use Rattle.text.specs.Text.{space, line_feed, decimal}
use Rattle.lines.specs.Lines.{refused_word}
use Rattle.lines.proofs.{Laid.lays_then, Laid.lays_as, Texts.refused_text_lem}
use Rattle.lines.proofs.refused.put_refused.Goals as goal

pub returns : goal.returns
unfolding refused_word
returns c =
    lays_as _
    (ap₂ (λ (number place : ℕ). (refused_word ++ (space ∷ [])) ++ ((decimal (pos number) ++ (space ∷ [])) ++ (decimal (pos place) ++ (line_feed ∷ []))))
    (c.from-number.ensures ∙ c.number.ensures) c.place-place.ensures
    ∙ refused_text_lem c.args.refusal)
    (lays_then _ _ _ c.put_word.ensures (lays_then _ _ _ c.put_natural.ensures c.put_natural-2.ensures))
