-- What both passes share: document 01, "Units and ranges" and "The two passes". Angles are used by their indices, counted from 0.
use Rattle.std.specs.Prelude.{ℕ, zero, suc, List, ℤ, pos, get_or}

-- L or e in force: 0 stands for the default
abbrev pub in_force : (default value : ℕ) → ℕ
in_force default zero = default
in_force default (suc value) = suc value

-- the given angle of index i
abbrev pub given : List ℕ → ℕ → ℤ
given angles i = pos (get_or angles i 0)
