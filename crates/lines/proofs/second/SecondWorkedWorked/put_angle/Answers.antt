-- numerator, rounded correction, result and rounds are laid after the angle's other numbers
use Rattle.std.proofs.Common.{refl, [], ◌∷◌, ◌++◌, ◌+◌, ℤ, pos, sym, ap}
use Rattle.vocabulary.specs.{map-append}
use Rattle.whole.specs.Sums.{naturals, vector}
use Rattle.figures.specs.Figure.{has_side}
use Rattle.text.specs.Text.{space, decimal, line}
use Rattle.lines.specs.Lines.{numbers, coefficients, wide_numbers}
use Rattle.lines.proofs.Laid.{lays_as, lays_line, part_start, from_natural, from_signed, number_then, numbers_line}
use Rattle.lines.proofs.second.SecondWorkedWorked.put_angle.Goals as goal

pub returns : goal.returns
returns c =
    let a = c.args.self.now in
    let i = c.args.i in
    let before = pos (i + 1) ∷ naturals a.given.now i ∷ coefficients (has_side a.figure) (vector a.reduced.now i) (vector a.side_reduced.now i) in
    let numerator = wide_numbers a.numerators_high.now a.numerators_low.now i in
    let rounded = vector a.rounded.now i in
    let result = naturals a.results.now i in
    let round = naturals a.rounds.now i in
    lays_as _ (ap line (sym (map-append decimal before (numerator ∷ rounded ∷ result ∷ round ∷ []))))
    (lays_line _ (numbers before) (decimal numerator) (decimal rounded ∷ decimal result ∷ decimal round ∷ []) c.put_reduced.ensures
    (lays_line _ (decimal numerator ∷ []) (decimal rounded) (decimal result ∷ decimal round ∷ [])
    (part_start (decimal numerator) _
    (lays_as _ (ap (λ (z : ℤ). decimal z ++ (space ∷ [])) c.wide_at-numerator.ensures) c.put_wide.ensures))
    (lays_as _
    (numbers_line (rounded ∷ result ∷ round ∷ [])
    (number_then (from_signed c.from.type_inv c.number_at.type_inv c.from.ensures c.number_at.ensures)
    (number_then (from_natural c.from-2.type_inv c.from-2.ensures c.number_at-2.ensures)
    (number_then (from_natural c.from-3.type_inv c.from-3.ensures c.number_at-3.ensures) refl))))
    c.put_numbers.ensures)))
