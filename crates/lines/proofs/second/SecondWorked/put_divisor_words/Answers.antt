-- with a side condition its misclosure and the determinant's word, else the word S
use Rattle.std.proofs.Common.{Bool, [], ◌∷◌, ◌++◌, ℤ, sym, ap, ◌∙◌, to_z-of_z, w64, FitsSigned, rules}
use Rattle.text.specs.Text.{space, decimal}
use Rattle.lines.specs.{Lays.line_start, Lines.s_word, Lines.determinant_word, Lines.divisor_words}
use Rattle.lines.proofs.Laid.{lays_as, lays_parts, part_start}
use Rattle.lines.proofs.second.SecondWorked.put_divisor_words.Goals as goal

pub returns-then-has_side : goal.returns-then-has_side
unfolding determinant_word
returns-then-has_side c =
    let z = c.args.self.now.side_misclosure in
    let fits : FitsSigned w64 z = search rules in
    let known = sym c.if-has_side.true ∙ c.has_side.ensures in
    lays_as _ (ap (λ (side : Bool). line_start (divisor_words side z)) known)
    (lays_parts _ (decimal z ∷ []) (determinant_word ∷ []) (part_start (decimal z) _ (lays_as _ (ap (λ (y : ℤ). decimal y ++ (space ∷ [])) (to_z-of_z {w = w64} fits)) c.put_part.ensures)) (part_start determinant_word _ c.put_word.ensures))

pub returns-else-has_side : goal.returns-else-has_side
unfolding s_word
returns-else-has_side c =
    let known = sym c.if-has_side.false ∙ c.has_side.ensures in
    lays_as _ (ap (λ (side : Bool). line_start (divisor_words side c.args.self.now.side_misclosure)) known)
    (part_start s_word _ c.put_word-else-has_side.ensures)
