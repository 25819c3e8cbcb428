-- What is taken are the numerators for the conditions' sums of d.
use Rattle.vocabulary.specs.{sym, ap, ◌∙◌, w64, to_z_of_z_at}
use Rattle.figures.specs.declared.Counts.{Counts}
use Rattle.pass_steps.proofs.Counted.{counted}
use Rattle.pass_second.proofs.SineSteps.{taken_made, taken_small, reduced_are, squares_are}
use Rattle.pass_second.proofs.sines.reduced_into.Goals as goal

pub reduced_from-requires-clause-within_2 : goal.reduced_from-requires-clause-within_2
reduced_from-requires-clause-within_2 c =
    let own = counted c.args.figure c.counts_of-counts.result c.counts_of-counts.ensures in
    let made =
    taken_made c.args.figure c.args.d.now c.requires.within c.requires.d_len _ c.args.a.now (sym own.lent_conditions ∙ own.own_conditions) c.condition_sums.ensures
    c.requires.a_len c.numerators_into.ensures in
    taken_small c.args.figure c.args.d.now c.requires.within c.requires.d_len made

pub returns-clause-value : goal.returns-clause-value
returns-clause-value c =
    let own = counted c.args.figure c.counts_of-counts.result c.counts_of-counts.ensures in
    let made =
    taken_made c.args.figure c.args.d.now c.requires.within c.requires.d_len _ c.args.a.now (sym own.lent_conditions ∙ own.own_conditions) c.condition_sums.ensures
    c.requires.a_len c.numerators_into.ensures in
    to_z_of_z_at w64 _ (record { sfits = c.reduced_from.type_inv }) ∙ c.reduced_from.ensures.value ∙ squares_are c.args.figure c.args.d.now _ _
    (ap (λ (n : Counts). n.denominator) c.counts_of-counts.ensures) c.requires.d_len made

pub returns-clause-a_after : goal.returns-clause-a_after
returns-clause-a_after c =
    let own = counted c.args.figure c.counts_of-counts.result c.counts_of-counts.ensures in
    let made =
    taken_made c.args.figure c.args.d.now c.requires.within c.requires.d_len _ c.args.a.now (sym own.lent_conditions ∙ own.own_conditions) c.condition_sums.ensures
    c.requires.a_len c.numerators_into.ensures in
    c.reduced_from.ensures.a_after ∙ reduced_are c.args.figure c.args.d.now _ _
    (ap (λ (n : Counts). n.denominator) c.counts_of-counts.ensures) c.requires.d_len made
