use Rattle.std.specs.Prelude.{◌≡◌, Err, None, Some}
use Rattle.std.proofs.Common.{rules}
use Rattle.vocabulary.specs.{◌∙◌}
use Rattle.figures.specs.Figure.{figure_of}
use Rattle.refusals.specs.declared.Refusal.{Refusal}
use Rattle.pass_rules.specs.SecondPass.{SecondAnswer}
use Rattle.pass_rules.specs.Lent.{second_given_by, second_held}
use Rattle.pass_second.proofs.SecondPromised.{none_named, of_figure}
use Rattle.pass_second.proofs.second.second_pass.Goals as goal

pub returns-in_err-figure-clause-promise : goal.returns-in_err-figure-clause-promise
returns-in_err-figure-clause-promise c =
    let none : figure_of c.args.code c.args.n ≡ None = search rules in
    let said : ◌≡◌ {A = SecondAnswer} c.from_residual.result (Err Refusal.NoSuchFigure) = search rules in
    let promise = none_named (second_given_by c.args.code c.args.n c.args.given) (second_held c.args.room.now) none in
    record { answered = said ∙ promise.answered; leaves = promise.leaves }

pub returns-clause-promise : goal.returns-clause-promise
returns-clause-promise c =
    let named : figure_of c.args.code c.args.n ≡ Some c.in_ok-figure.figure = search rules in
    of_figure (second_given_by c.args.code c.args.n c.args.given) (second_held c.args.room.now) _ named c.second_pass_of.ensures.promise
