-- What the steps ask of what they take, so that no sum passes its width.
use Rattle.std.specs.Prelude.{ℕ}

-- no numerator of an accepted first pass is greater: nine products of a coefficient below 100 and a misclosure of at most 600
abbrev pub most_numerator : ℕ
most_numerator = 540000
