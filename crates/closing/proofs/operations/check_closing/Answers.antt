use Rattle.std.specs.Prelude.{◌≡◌, Err, None, Some}
use Rattle.std.proofs.Common.{rules}
use Rattle.vocabulary.specs.{◌∙◌}
use Rattle.refusals.specs.declared.Refusal.{Refusal}
use Rattle.figures.specs.Figure.{figure_of}
use Rattle.pass_rules.specs.Lent.{first_given_by}
use Rattle.closing.proofs.Promised.{check_none_named, check_of_figure}
use Rattle.closing.proofs.operations.check_closing.Goals as goal

pub returns-in_err-figure : goal.returns-in_err-figure
returns-in_err-figure c =
    let none : figure_of c.args.code c.args.n ≡ None = search rules in
    let said : c.from_residual.result ≡ Err Refusal.NoSuchFigure = search rules in
    said ∙ check_none_named (first_given_by c.args.code c.args.n c.args.given) c.args.offered.now none

pub returns : goal.returns
returns c =
    let named : figure_of c.args.code c.args.n ≡ Some c.in_ok-figure.figure = search rules in
    c.check_of.ensures ∙ check_of_figure (first_given_by c.args.code c.args.n c.args.given) c.args.offered.now _ named
