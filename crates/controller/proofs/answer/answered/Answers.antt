use Rattle.refusals.specs.Numbers.{Verdict}
use Rattle.std.proofs.Common.{ℕ, sym, ap, ◌∙◌}
use Rattle.refusals.specs.Numbers.{verdict_told}
use Rattle.controller.specs.Answer.{answer_number}
use Rattle.controller.proofs.Answers.{done_number}
use Rattle.controller.proofs.answer.answered.Goals as goal

abbrev answer : Verdict → ℕ
answer v = answer_number (verdict_told v)

pub returns-in-Ok : goal.returns-in-Ok
returns-in-Ok c = sym (ap answer c.in-Ok.is ∙ done_number)
