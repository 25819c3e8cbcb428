use Rattle.std.specs.Prelude.{refl}
use Rattle.vocabulary.specs.{sym, ◌∙◌}
use Rattle.closing.proofs.Promised.{chose}
use Rattle.closing.proofs.operations.closing_of.Goals as goal

pub returns : goal.returns
returns c =
    chose c.args.figure c.args.given.limit c.args.given.angles.now c.args.given.rounds.now c.args.given.fixed.now c.args.corrections.now
    (sym c.in_ok-exact_into.was ∙ c.exact_into.ensures.answer) refl c.in_ok-exact_into.ensures.numerators c.choice_into.ensures
