-- One sine condition and two make the corrections of the definitions.
use Rattle.std.specs.Prelude.{◌≡◌, ◌*ℤ◌}
use Rattle.std.proofs.Common.{rules}
use Rattle.vocabulary.specs.{w64, to_z, of_z}
use Rattle.pass_second.specs.Steps.{factor_of}
use Rattle.pass_second.proofs.CorrectionSteps.{by_one, by_two}
use Rattle.pass_second.proofs.numerators.corrections_into.Goals as goal

pub returns-then-conditions-eq0-clause-high_after : goal.returns-then-conditions-eq0-clause-high_after
returns-then-conditions-eq0-clause-high_after c =
    let x = c.args.conditions in
    let scale : to_z w64 (of_z w64 c.scale_of-scale.result) ≡ factor_of c.args.denominator *ℤ x.pair.wa = search rules in
    let filled = c.one_into.ensures in
    (by_one c.args.denominator x.sides x.pair x.a.now x.b.now c.requires.small_pair _ x.divisor scale c.if-conditions-eq0.true c.requires.divisor_value
    (filled.high_after, (filled.low_after, filled.tenths_after))).0

pub returns-then-conditions-eq0-clause-low_after : goal.returns-then-conditions-eq0-clause-low_after
returns-then-conditions-eq0-clause-low_after c =
    let x = c.args.conditions in
    let scale : to_z w64 (of_z w64 c.scale_of-scale.result) ≡ factor_of c.args.denominator *ℤ x.pair.wa = search rules in
    let filled = c.one_into.ensures in
    (by_one c.args.denominator x.sides x.pair x.a.now x.b.now c.requires.small_pair _ x.divisor scale c.if-conditions-eq0.true c.requires.divisor_value
    (filled.high_after, (filled.low_after, filled.tenths_after))).1.0

pub returns-then-conditions-eq0-clause-tenths_after : goal.returns-then-conditions-eq0-clause-tenths_after
returns-then-conditions-eq0-clause-tenths_after c =
    let x = c.args.conditions in
    let scale : to_z w64 (of_z w64 c.scale_of-scale.result) ≡ factor_of c.args.denominator *ℤ x.pair.wa = search rules in
    let filled = c.one_into.ensures in
    (by_one c.args.denominator x.sides x.pair x.a.now x.b.now c.requires.small_pair _ x.divisor scale c.if-conditions-eq0.true c.requires.divisor_value
    (filled.high_after, (filled.low_after, filled.tenths_after))).1.1

pub returns-else-conditions-eq0-clause-high_after : goal.returns-else-conditions-eq0-clause-high_after
returns-else-conditions-eq0-clause-high_after c =
    let x = c.args.conditions in
    let factor : to_z w64 (of_z w64 c.factor_of-factor.result) ≡ factor_of c.args.denominator = search rules in
    let filled = c.two_into.ensures in
    let factors = c.pair_factors.ensures in
    (by_two c.args.denominator x.sides x.pair x.a.now x.b.now c.requires.small_pair _ c.pair_factors.result factor c.if-conditions-eq0.false
    c.requires.denominator_le_most_denominator c.requires.within c.requires.within_2 factors.first_value factors.second_value factors.determinant_value
    (filled.high_after, (filled.low_after, filled.tenths_after))).0

pub returns-else-conditions-eq0-clause-low_after : goal.returns-else-conditions-eq0-clause-low_after
returns-else-conditions-eq0-clause-low_after c =
    let x = c.args.conditions in
    let factor : to_z w64 (of_z w64 c.factor_of-factor.result) ≡ factor_of c.args.denominator = search rules in
    let filled = c.two_into.ensures in
    let factors = c.pair_factors.ensures in
    (by_two c.args.denominator x.sides x.pair x.a.now x.b.now c.requires.small_pair _ c.pair_factors.result factor c.if-conditions-eq0.false
    c.requires.denominator_le_most_denominator c.requires.within c.requires.within_2 factors.first_value factors.second_value factors.determinant_value
    (filled.high_after, (filled.low_after, filled.tenths_after))).1.0

pub returns-else-conditions-eq0-clause-tenths_after : goal.returns-else-conditions-eq0-clause-tenths_after
returns-else-conditions-eq0-clause-tenths_after c =
    let x = c.args.conditions in
    let factor : to_z w64 (of_z w64 c.factor_of-factor.result) ≡ factor_of c.args.denominator = search rules in
    let filled = c.two_into.ensures in
    let factors = c.pair_factors.ensures in
    (by_two c.args.denominator x.sides x.pair x.a.now x.b.now c.requires.small_pair _ c.pair_factors.result factor c.if-conditions-eq0.false
    c.requires.denominator_le_most_denominator c.requires.within c.requires.within_2 factors.first_value factors.second_value factors.determinant_value
    (filled.high_after, (filled.low_after, filled.tenths_after))).1.1
