use Rattle.refusals.specs.Numbers.{Verdict}
use Rattle.std.proofs.Common.{◌<◌, sym, subst}
use Rattle.refusals.specs.Numbers.{verdict_told}
use Rattle.pass_rules.specs.Promises.{first_given}
use Rattle.closing.specs.Promises.{closing_rows}
use Rattle.closing.proofs.Refusing.{closing_in_table}
use Rattle.controller.specs.Answer.{place_step}
use Rattle.controller.proofs.{Answers.place_small, PlaceBounds.closing_within}
use Rattle.controller.proofs.rounding.bienguloc_closing.Goals as goal

pub answered-requires : goal.answered-requires
answered-requires c =
    subst (λ (v : Verdict). (verdict_told v).place < place_step) (sym c.closing_corrections.ensures.answered)
    (place_small (closing_rows (first_given c.args.code c.args.n c.args.limit c.args.angles.now c.args.rounds.now c.args.fixed.now) c.args.corrections.now)
    (closing_in_table (first_given c.args.code c.args.n c.args.limit c.args.angles.now c.args.rounds.now c.args.fixed.now) c.args.corrections.now)
    (closing_within (first_given c.args.code c.args.n c.args.limit c.args.angles.now c.args.rounds.now c.args.fixed.now) c.args.corrections.now))
