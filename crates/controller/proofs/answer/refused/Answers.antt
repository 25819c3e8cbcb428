-- A number of the table and a place below 256 fit 32 bits.
use Rattle.std.proofs.Common.{ℕ, ◌+◌, ◌*◌, ap₂, arith}
use Rattle.refusals.proofs.Rows.{number_range}
use Rattle.controller.specs.Answer.{place_step, answer_number}
use Rattle.controller.proofs.answer.refused.Goals as goal

pub overflow_mul-result : goal.overflow_mul-result
overflow_mul-result c = omega (arith, c.number.ensures, (number_range c.args.refusal).1)

pub overflow_add-result : goal.overflow_add-result
overflow_add-result c = omega (arith, c.number.ensures, c.place.ensures, c.requires, (number_range c.args.refusal).1)

pub returns : goal.returns
unfolding answer_number
returns c = ap₂ (λ (number place : ℕ). number * place_step + place) c.number.ensures c.place.ensures
