use Rattle.std.specs.Prelude.{◌≡◌, Err, None, Some}
use Rattle.std.proofs.Common.{rules}
use Rattle.vocabulary.specs.{◌∙◌}
use Rattle.refusals.specs.declared.Refusal.{Refusal}
use Rattle.figures.specs.Figure.{figure_of}
use Rattle.pass_rules.specs.Lent.{first_given_by}
use Rattle.closing.proofs.Promised.{none_named, of_figure}
use Rattle.closing.proofs.operations.closing_corrections.Goals as goal

pub returns-in_err-figure : goal.returns-in_err-figure
returns-in_err-figure c =
    let none : figure_of c.args.code c.args.n ≡ None = search rules in
    let said : c.from_residual.result ≡ Err Refusal.NoSuchFigure = search rules in
    let promise = none_named (first_given_by c.args.code c.args.n c.args.given) c.args.corrections.now none in
    record { answered = said ∙ promise.answered; leaves = promise.leaves }

pub returns : goal.returns
returns c =
    let named : figure_of c.args.code c.args.n ≡ Some c.in_ok-figure.figure = search rules in
    of_figure (first_given_by c.args.code c.args.n c.args.given) c.args.corrections.now _ named c.closing_of.ensures
