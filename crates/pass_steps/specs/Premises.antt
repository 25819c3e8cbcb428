-- What the steps of the work ask of what they take, so that no sum and no product passes its width.
use Rattle.std.specs.Prelude.{ℕ, ◌+◌, ◌*◌, ◌^◌, ◌≤◌, ◌<◌, List, get_or, ℤ, nat_abs}
use Rattle.whole.specs.Sums.{vector}
use Rattle.refusals.specs.Ranges.{most_log_sine, most_difference}
use Rattle.figures.specs.{Numerators.most_conditions, Numerators.most_members}

-- no magnitude is greater
abbrev pub Within : (most : ℕ) → List ℤ → Type 0
Within most xs = (i : ℕ) → nat_abs (vector xs i) ≤ most

-- each value is less than 2²³, as every angle within range is
abbrev pub Angles : List ℕ → Type 0
Angles values = (i : ℕ) → get_or values i 0 < 2 ^ 23

abbrev pub LogSines : List ℕ → Type 0
LogSines values = (i : ℕ) → get_or values i 0 ≤ most_log_sine

-- the sum of eight such numbers has 31 bits
abbrev pub most_summed : ℕ
most_summed = 2 ^ 27

-- no such sum is greater
abbrev pub most_total : ℕ
most_total = most_members * most_summed

-- the sum of nine products of such a number and a byte has 31 bits
abbrev pub most_applied : ℕ
most_applied = 2 ^ 20

-- such a number and an angle sum to 31 bits; no rounded correction is greater
abbrev pub most_rounded : ℕ
most_rounded = 1300000000

-- no figure has a greater denominator
abbrev pub most_denominator : ℕ
most_denominator = 48

-- where number 9 passes, W is not farther from 0
abbrev pub most_misclosure : ℕ
most_misclosure = 2 ^ 18

-- no numerator for the conditions' sums of d is greater: a row's products have coefficients below 100
abbrev pub most_taken : ℕ
most_taken = most_conditions * (100 * (most_members * most_difference))

-- no reduced coefficient is greater; the squares of as many as there are angles sum to 63 bits
abbrev pub most_reduced : ℕ
most_reduced = most_denominator * most_difference + most_taken
