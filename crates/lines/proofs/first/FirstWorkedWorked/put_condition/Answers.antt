-- the word, the condition's own number and what the slices have for it
use Rattle.std.proofs.Common.{refl, [], ◌∷◌, ◌+◌, pos, arith, w64}
use Rattle.vocabulary.specs.{to_z_pos}
use Rattle.whole.specs.Sums.{vector}
use Rattle.lines.specs.Lines.{condition_word}
use Rattle.lines.proofs.Laid.{lays_as, word_line, from_signed, number_then}
use Rattle.lines.proofs.first.FirstWorkedWorked.put_condition.Goals as goal

pub returns : goal.returns
unfolding condition_word
returns c =
    let w = c.args.self.now in
    let j = c.args.j in
    lays_as _
    (word_line condition_word (pos (j + 1)) (vector w.misclosures.now j ∷ vector w.rests.now j ∷ [])
    (number_then (to_z_pos w64 (omega arith))
    (number_then (from_signed c.from.type_inv c.number_at.type_inv c.from.ensures c.number_at.ensures)
    (number_then (from_signed c.from-2.type_inv c.number_at-2.type_inv c.from-2.ensures c.number_at-2.ensures) refl))))
    c.put_line.ensures
