-- `pass_pair::pair_correction` meets its contract: each of its two steps is that of the definition.
use Rattle.std.specs.Prelude.{refl}
use Rattle.vocabulary.specs.{sym, ap₂, ◌∙◌, to_z-of_z}
use Rattle.wide.proofs.Bounds.{value_size}
use Rattle.pass_pair.specs.Pair.{correction_from}
use Rattle.pass_pair.proofs.pair_correction.Goals as goal

pub returns : goal.returns
returns c =
    let fits = c.ranges in
    c.correction_from.ensures
    ∙ ap₂ correction_from (c.numerator.ensures ∙ rw (to_z-of_z fits.factor, to_z-of_z fits.a, to_z-of_z fits.b) refl)
    (sym (value_size c.args.factors.determinant))
