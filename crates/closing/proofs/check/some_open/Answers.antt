use Rattle.std.specs.Prelude.{◌≡◌, refl, ◌≤◌, ℤ, pos, ◌+ℤ◌, length, replicate}
use Rattle.std.proofs.Common.{arith, sym, ap, ◌∙◌}
use Rattle.whole.specs.Sums.{vector}
use Rattle.whole.proofs.Lending.{lent_length}
use Rattle.figures.specs.{Figure.condition_count, Numerators.condition_sum}
use Rattle.figures.proofs.Figures.{condition_bound}
use Rattle.pass_steps.proofs.{Held.sums_are, StepLaws.listed_after}
use Rattle.closing.specs.Steps.{some_open}
use Rattle.closing.proofs.check.some_open.Goals as goal

pub returns : goal.returns
returns c =
    let few : length c.args.misclosures.now ≤ 9 = omega (arith, c.requires.misclosures_len, condition_bound c.args.figure) in
    let own = sym (lent_length _ (replicate 9 (pos 0)) few) ∙ c.requires.misclosures_len in
    let sums = sums_are c.args.figure c.args.offered.now c.requires.within _ _ refl c.requires.offered_len own c.condition_sums.ensures in
    c.some_left.ensures
    ∙ ap some_open (listed_after (condition_count c.args.figure) (condition_sum c.args.figure (vector c.args.offered.now)) _
    (λ j z. vector c.args.misclosures.now j +ℤ z) sums c.requires.misclosures_len)
