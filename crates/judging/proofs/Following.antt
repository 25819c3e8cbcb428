-- The value at an index of one list and then another, by where the index lies.
use Rattle.std.specs.Prelude.{ℕ, ◌+◌, ◌-◌, ◌≤◌, List, ◌++◌, ◌≡◌, length, get_or}
use Rattle.vocabulary.specs.{ap, ◌∙◌, arith, get_or-append-add}

pub get_or_later : {A : Type 0} (first second : List A) (d : A) (i : ℕ) → length first ≤ i → get_or (first ++ second) i d ≡ get_or second (i - length first) d
get_or_later first second d i l =
    let split : i ≡ length first + (i - length first) = omega arith in
    ap (λ (n : ℕ). get_or (first ++ second) n d) split ∙ get_or-append-add first second (i - length first) d
