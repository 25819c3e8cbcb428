-- The ranges of document 01, "Units and ranges". Both ends are inside.
use Rattle.std.specs.Prelude.{ℕ}

-- angle, in tenths of an arc second
abbrev pub least_angle : ℕ
least_angle = 1

abbrev pub most_angle : ℕ
most_angle = 6_479_999

-- log-sine plus 10, in units of the seventh decimal; the log of a known side, in the same units, has the same range (M-100)
abbrev pub least_log_sine : ℕ
least_log_sine = 1

abbrev pub most_log_sine : ℕ
most_log_sine = 100_000_000

-- sine difference for 1″, in hundredths of the sixth decimal, from minus this
abbrev pub most_difference : ℕ
most_difference = 9_999

-- misclosure limit L in tenths, from 0
abbrev pub most_limit : ℕ
most_limit = 600

-- sine tolerance e in seconds, from 0
abbrev pub most_tolerance : ℕ
most_tolerance = 50

-- how often an angle was observed: document 02, M-106
abbrev pub least_rounds : ℕ
least_rounds = 1

abbrev pub most_rounds : ℕ
most_rounds = 255
