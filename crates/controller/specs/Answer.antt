-- How an operation answers C: one number, 0 for done, else number × 256 + place (document 01, "Numbers given when a sheet is turned
-- back"). No place that is answered reaches 256, so number and place can be taken apart again.
use Rattle.std.specs.Prelude.{ℕ, ◌+◌, ◌*◌, ◌/◌, ◌%◌, cond, List, [], eqb}
use Rattle.refusals.specs.Numbers.{Told, told}

abbrev pub place_step : ℕ
place_step = 256

unfoldable pub answer_number : Told → ℕ
answer_number answer = answer.number * place_step + answer.place

-- the number and the place of an answer
unfoldable pub answer_told : (answer : ℕ) → Told
answer_told answer = told (answer / place_step) (answer % place_step)

-- a slice that C lends beside those of the operation counts for number 2 with them: where it has not its own length, none has
abbrev pub lengths_with : (room own : ℕ) → (lent : List ℕ) → List ℕ
lengths_with room own lent = cond (eqb room own) lent []
