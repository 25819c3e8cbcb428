-- its numbers are the angle's own number and what the slices have for it
use Rattle.std.proofs.Common.{refl, [], ◌∷◌, ◌+◌, pos, arith, w64}
use Rattle.vocabulary.specs.{to_z_pos}
use Rattle.whole.specs.Sums.{naturals, vector}
use Rattle.lines.proofs.Laid.{lays_as, from_natural, from_signed, number_then, numbers_line}
use Rattle.lines.proofs.first.FirstWorkedWorked.put_angle.Goals as goal

pub returns : goal.returns
returns c =
    let w = c.args.self.now in
    let i = c.args.i in
    lays_as _
    (numbers_line
    (pos (i + 1) ∷ naturals w.given.now i ∷ vector w.numerators.now i ∷ vector w.rounded.now i ∷ naturals w.results.now i ∷ naturals w.rounds.now i ∷ [])
    (number_then (to_z_pos w64 (omega arith))
    (number_then (from_natural c.from.type_inv c.from.ensures c.number_at.ensures)
    (number_then (from_signed c.from-2.type_inv c.number_at-2.type_inv c.from-2.ensures c.number_at-2.ensures)
    (number_then (from_signed c.from-3.type_inv c.number_at-3.type_inv c.from-3.ensures c.number_at-3.ensures)
    (number_then (from_natural c.from-4.type_inv c.from-4.ensures c.number_at-4.ensures)
    (number_then (from_natural c.from-5.type_inv c.from-5.ensures c.number_at-5.ensures) refl)))))))
    c.put_numbers.ensures
