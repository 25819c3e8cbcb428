-- its numbers are the angle's own number and what the slices have for it, the last one where the figure has a side condition
use Rattle.std.proofs.Common.{◌≡◌, refl, Bool, List, ◌∷◌, ◌+◌, ℤ, pos, sym, ap, ◌∙◌, arith, w64}
use Rattle.vocabulary.specs.{to_z_pos}
use Rattle.whole.specs.Sums.{naturals, vector}
use Rattle.text.specs.Text.{space, decimal}
use Rattle.lines.specs.{Lays.line_start, Lays.numbers_ended, Lines.numbers, Lines.coefficients}
use Rattle.lines.proofs.Laid.{lays_as, spaced_start, answered, from_natural, number_then}
use Rattle.lines.proofs.second.SecondWorked.put_reduced.Goals as goal

-- as numbers that begin a line
started : {values : List ℤ} {z : ℤ} {zs : List ℤ} → values ≡ z ∷ zs → numbers_ended values space ≡ line_start (numbers (z ∷ zs))
unfolding numbers_ended
started {values} {z} {zs} e = ap (λ (l : List ℤ). numbers_ended l space) e ∙ spaced_start (decimal z) (numbers zs)

pub returns-then-has_side : goal.returns-then-has_side
returns-then-has_side c =
    let a = c.args.self.now in
    let i = c.args.i in
    let known = sym c.if-has_side.true ∙ c.has_side.ensures in
    let shown = (λ (side : Bool). line_start (numbers (pos (i + 1) ∷ naturals a.given.now i ∷ coefficients side (vector a.reduced.now i) (vector a.side_reduced.now i)))) in
    lays_as _
    (started (number_then (to_z_pos w64 (omega arith)) (number_then (from_natural c.from.type_inv c.from.ensures c.number_at.ensures)
    (number_then (answered c.number_at-2.type_inv c.number_at-2.ensures) (number_then (answered c.number_at-3.type_inv c.number_at-3.ensures) refl))))
    ∙ ap shown known)
    c.put_numbers.ensures

pub returns-else-has_side : goal.returns-else-has_side
returns-else-has_side c =
    let a = c.args.self.now in
    let i = c.args.i in
    let known = sym c.if-has_side.false ∙ c.has_side.ensures in
    let shown = (λ (side : Bool). line_start (numbers (pos (i + 1) ∷ naturals a.given.now i ∷ coefficients side (vector a.reduced.now i) (vector a.side_reduced.now i)))) in
    lays_as _
    (started (number_then (to_z_pos w64 (omega arith)) (number_then (from_natural c.from.type_inv c.from.ensures c.number_at.ensures)
    (number_then (answered c.number_at-2.type_inv c.number_at-2.ensures) refl)))
    ∙ ap shown known)
    c.put_numbers-else-has_side.ensures
