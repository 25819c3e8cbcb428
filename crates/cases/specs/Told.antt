-- What the comparisons of the cases answer.
use Rattle.std.specs.Prelude.{◌≡◌, Bool, true, false, ℕ}

-- an answer that says whether something holds
abbrev pub Tells : Bool → Type 0 → Type 0
Tells r holds = (r ≡ true → holds) × (holds → r ≡ true)

-- 1 for a case that came out as expected
abbrev pub counted : Bool → ℕ
counted true = 1
counted false = 0
