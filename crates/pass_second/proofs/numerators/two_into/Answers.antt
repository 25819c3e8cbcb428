use Rattle.std.proofs.Common.{FitsSigned}
use Rattle.std.proofs.lemmas.Int.{to_z-of_z}
use Rattle.vocabulary.specs.{arith, rules, w64}
use Rattle.pass_second.proofs.CorrectionSteps.{corrected_none, corrected_more, corrected_all}
use Rattle.pass_second.proofs.numerators.two_into.Goals as goal

pub loop-i-init : goal.loop-i-init
loop-i-init c = corrected_none _ _ _ _ _ c.requires.high_len c.requires.low_len c.requires.tenths_len

pub loop-i-preserved : goal.loop-i-preserved
loop-i-preserved c =
    corrected_more {made = c.pair_correction-correction.result} c.loop-i.invariant (omega arith) (search rules) (search rules) (search rules) (search rules)

pub returns-clause-high_after : goal.returns-clause-high_after
returns-clause-high_after c =
    let read : FitsSigned w64 c.args.factor = search rules in
    let done = simp to_z-of_z at c.loop-i.invariant in
    (corrected_all done (omega arith)).0

pub returns-clause-low_after : goal.returns-clause-low_after
returns-clause-low_after c =
    let read : FitsSigned w64 c.args.factor = search rules in
    let done = simp to_z-of_z at c.loop-i.invariant in
    (corrected_all done (omega arith)).1.0

pub returns-clause-tenths_after : goal.returns-clause-tenths_after
returns-clause-tenths_after c =
    let read : FitsSigned w64 c.args.factor = search rules in
    let done = simp to_z-of_z at c.loop-i.invariant in
    (corrected_all done (omega arith)).1.1
