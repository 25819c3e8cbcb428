use Rattle.std.specs.Prelude.{◌*◌}
use Rattle.vocabulary.specs.{lit<, w64, to_z-of_z}
use Rattle.pass_steps.specs.Premises.{most_denominator, most_misclosure}
use Rattle.pass_second.proofs.Exact.{product}
use Rattle.pass_second.proofs.numerators.scale_of.Goals as goal

pub returns-clause-value : goal.returns-clause-value
returns-clause-value c =
    (product w64 (100 * most_denominator) most_misclosure _ _ c.args.factor c.args.misclosure (lit< tt) (to_z-of_z {w = w64} c.ranges.factor)
    (to_z-of_z {w = w64} c.ranges.misclosure) c.requires.factor_bound c.requires.misclosure_bound).read

pub returns-clause-small : goal.returns-clause-small
returns-clause-small c =
    let made =
    product w64 (100 * most_denominator) most_misclosure _ _ c.args.factor c.args.misclosure (lit< tt) (to_z-of_z {w = w64} c.ranges.factor)
    (to_z-of_z {w = w64} c.ranges.misclosure) c.requires.factor_bound c.requires.misclosure_bound in
    rw made.read made.small
