use Rattle.std.specs.Prelude.{◌*◌}
use Rattle.vocabulary.specs.{lit<, w64, to_z-of_z}
use Rattle.pass_steps.specs.Premises.{most_denominator, most_misclosure, most_reduced}
use Rattle.pass_second.proofs.Exact.{product}
use Rattle.pass_second.proofs.numerators.numerator_of.Goals as goal

pub returns : goal.returns
returns c =
    (product w64 (100 * most_denominator * most_misclosure) most_reduced _ _ c.args.scale c.args.a (lit< tt) (to_z-of_z {w = w64} c.ranges.scale)
    (to_z-of_z {w = w64} c.ranges.a) c.requires.scale_bound c.requires.a_bound).read
