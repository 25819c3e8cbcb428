use Rattle.std.specs.Prelude.{refl, ◌+ℤ◌}
use Rattle.vocabulary.specs.{◌∙◌}
use Rattle.whole.specs.Sums.{vector}
use Rattle.figures.specs.{Figure.condition_count, Numerators.condition_sum}
use Rattle.pass_steps.proofs.{Held.sums_are, Held.totals_within, StepLaws.listed_after}
use Rattle.pass_first.proofs.corrections.rests_into.Goals as goal

pub add_misclosures-requires-clause-within_2 : goal.add_misclosures-requires-clause-within_2
add_misclosures-requires-clause-within_2 c =
    let sums = sums_are c.args.figure c.args.tenths.now c.requires.within_2 _ c.args.rests.now refl c.requires.tenths_len c.requires.rests_len c.condition_sums.ensures in
    λ j. rw sums (totals_within c.args.figure c.args.tenths.now c.requires.within_2 j)

pub returns : goal.returns
returns c =
    let sums = sums_are c.args.figure c.args.tenths.now c.requires.within_2 _ c.args.rests.now refl c.requires.tenths_len c.requires.rests_len c.condition_sums.ensures in
    c.add_misclosures.ensures
    ∙ listed_after (condition_count c.args.figure) (condition_sum c.args.figure (vector c.args.tenths.now)) _ (λ j z. vector c.args.w.now j +ℤ z) sums c.requires.w_len
