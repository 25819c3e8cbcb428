use Rattle.std.specs.Prelude.{◌≡◌, List, ℤ, length}
use Rattle.vocabulary.specs.{sym, ◌∙◌, le_trans, lit≤}
use Rattle.refusals.specs.{Order.verdict_of, Promise.stored, Ranges.most_limit, Table.misclosures_row}
use Rattle.figures.specs.{declared.Figure.Figure, Figure.angle_count, Figure.condition_count}
use Rattle.pass_steps.specs.Premises.{Within, most_applied, most_rounded}
use Rattle.pass_steps.specs.Steps.{fitting, numerators_from}
use Rattle.pass_steps.proofs.{Fitting.fits, Judged.misclosures_pass, Judged.taken, StepLaws.length_of}
use Rattle.pass_first.proofs.FirstSteps.{exact_within, tenths_are}
use Rattle.pass_first.proofs.corrections.corrections_into.Goals as goal

-- the numerators of misclosures within the limit
exact : (f : Figure) (w entry : List ℤ) {exit : List ℤ} → length w ≡ condition_count f → length entry ≡ angle_count f → Within most_limit w
    → exit ≡ fitting (length w) (condition_count f) (length entry) (angle_count f)
    (stored (verdict_of (misclosures_row most_applied w)) (numerators_from f w) entry) entry
    → exit ≡ numerators_from f w
exact f w entry m n small made =
    made ∙ fits _ _ _ _ _ _ m n ∙ taken _ _ _ (misclosures_pass most_applied w (λ i. le_trans (small i) (lit≤ tt)))

pub rounded_into-requires-clause-rounded_len : goal.rounded_into-requires-clause-rounded_len
rounded_into-requires-clause-rounded_len c =
    let own = exact c.args.figure c.args.w.now c.args.exact.now c.requires.w_len c.requires.exact_len c.requires.within c.numerators_into.ensures in
    c.requires.tenths_len ∙ sym (length_of _ _ own)

pub rounded_into-requires-clause-within : goal.rounded_into-requires-clause-within
rounded_into-requires-clause-within c =
    let own = exact c.args.figure c.args.w.now c.args.exact.now c.requires.w_len c.requires.exact_len c.requires.within c.numerators_into.ensures in
    λ i. rw own (exact_within c.args.figure c.args.w.now c.requires.within most_rounded (lit≤ tt) i)

pub returns-clause-exact_after : goal.returns-clause-exact_after
returns-clause-exact_after c =
    exact c.args.figure c.args.w.now c.args.exact.now c.requires.w_len c.requires.exact_len c.requires.within c.numerators_into.ensures

pub returns-clause-tenths_after : goal.returns-clause-tenths_after
returns-clause-tenths_after c =
    let own = exact c.args.figure c.args.w.now c.args.exact.now c.requires.w_len c.requires.exact_len c.requires.within c.numerators_into.ensures in
    tenths_are c.args.figure c.args.w.now own c.rounded_into.ensures
