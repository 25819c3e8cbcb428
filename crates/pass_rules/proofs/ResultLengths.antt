-- The lengths of the results, one by one. Assumes nothing.
use Rattle.std.specs.Prelude.{List, ◌≡◌, ℕ, length, get_or}
use Rattle.vocabulary.specs.{sym, ap, ◌∙◌}
use Rattle.whole.specs.Lists.{listed}
use Rattle.whole.proofs.Lists.{listed_get_or}

pub one_by_one : (count : ℕ) (l : List ℕ) → length l ≡ count → listed count (λ i. get_or l i 0) ≡ l
one_by_one count l e = ap (λ (n : ℕ). listed n (λ i. get_or l i 0)) (sym e) ∙ listed_get_or 0 l
