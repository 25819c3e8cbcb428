use Rattle.std.specs.Prelude.{◌≡◌, Err, List, ℤ}
use Rattle.std.proofs.Common.{rules}
use Rattle.vocabulary.specs.{sym, ap₂, ◌∙◌}
use Rattle.refusals.specs.{Order.verdict_of, Table.choice_row}
use Rattle.closing.specs.Rules.{tenths_under, tenths_over, rests_left}
use Rattle.closing.proofs.Promised.{refused_before, asked_after}
use Rattle.closing.proofs.operations.check_of.Goals as goal

pub returns-in_err-exact_into : goal.returns-in_err-exact_into
returns-in_err-exact_into c =
    let again : c.from_residual.result ≡ Err c.in_err-exact_into.field-0.0 = search rules in
    again
    ∙ sym (refused_before c.args.figure c.args.given.limit c.args.given.angles.now c.args.given.rounds.now c.args.given.fixed.now c.args.offered.now _
    (sym c.exact_into.ensures.answer ∙ c.in_err-exact_into.was))

pub returns : goal.returns
returns c =
    c.check_choice.ensures
    ∙ ap₂ (λ (x y : List ℤ). verdict_of (choice_row (tenths_under c.args.figure x) (tenths_over c.args.figure x) c.args.offered.now (rests_left c.args.figure y c.args.offered.now)))
    c.in_ok-exact_into.ensures.numerators c.in_ok-exact_into.ensures.misclosures
    ∙ asked_after c.args.figure c.args.given.limit c.args.given.angles.now c.args.given.rounds.now c.args.given.fixed.now c.args.offered.now
    (sym c.exact_into.ensures.answer ∙ c.in_ok-exact_into.was)
