-- What the searches of the code answer: the lowest place of a value that lies outside its range.
use Rattle.std.specs.Prelude.{ℕ, ◌+◌, List, Option, None, Some, ℤ, pos, ◌+ℤ◌, length, get_or}
use Rattle.whole.specs.Lists.{listed}
use Rattle.refusals.specs.{Numbers.numbered, Order.lowest_place, Table.sine_entry_outside}
use Rattle.refusals.specs.Questions.{asked, outside, outside_signed}

-- the place, counted from 1, of an index that is counted from 0
abbrev pub placed : Option ℕ → Option ℕ
placed None = None
placed (Some i) = Some (i + 1)

abbrev pub lowest_outside : (values : List ℕ) (least most : ℕ) → Option ℕ
lowest_outside values least most = lowest_place (λ p. asked (outside least most (numbered values p 0))) (length values)

abbrev pub lowest_signed_outside : (values : List ℤ) (least most : ℤ) → Option ℕ
lowest_signed_outside values least most = lowest_place (λ p. asked (outside_signed least most (numbered values p (pos 0)))) (length values)

-- each angle with its correction; one that is not there counts as 0
abbrev pub results_of : (angles : List ℕ) (corrections : List ℤ) → List ℤ
results_of angles corrections = listed (length angles) (λ i. pos (get_or angles i 0) +ℤ get_or corrections i (pos 0))

abbrev pub lowest_entry_outside : (log_sines : List ℕ) (differences : List ℤ) → Option ℕ
lowest_entry_outside log_sines differences =
    lowest_place (λ p. asked (sine_entry_outside (numbered log_sines p 0) (numbered differences p (pos 0)))) (length log_sines)
