use Rattle.refusals.specs.Numbers.{Verdict}
use Rattle.std.proofs.Common.{◌<◌, sym, subst}
use Rattle.refusals.specs.Numbers.{verdict_told}
use Rattle.pass_rules.specs.Promises.{first_given}
use Rattle.closing.specs.Promises.{check_rows}
use Rattle.closing.proofs.Refusing.{check_in_table}
use Rattle.controller.specs.Answer.{place_step}
use Rattle.controller.proofs.{Answers.place_small, PlaceBounds.check_within}
use Rattle.controller.proofs.checking.bienguloc_check_closing.Goals as goal

pub answered-requires : goal.answered-requires
answered-requires c =
    subst (λ (v : Verdict). (verdict_told v).place < place_step) (sym c.check_closing.ensures)
    (place_small (check_rows (first_given c.args.code c.args.n c.args.limit c.args.angles.now c.args.rounds.now c.args.fixed.now) c.args.offered.now)
    (check_in_table (first_given c.args.code c.args.n c.args.limit c.args.angles.now c.args.rounds.now c.args.fixed.now) c.args.offered.now)
    (check_within (first_given c.args.code c.args.n c.args.limit c.args.angles.now c.args.rounds.now c.args.fixed.now) c.args.offered.now))
