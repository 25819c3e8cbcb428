-- The steps of a loop that takes the values of a column, for values of any sort. Assumes nothing.
use Rattle.std.specs.Prelude.{ℕ, zero, suc, ◌+◌, ◌*◌, ◌≤◌, ◌<◌, List, ◌∷◌, ◌≡◌, refl, length, get_or, take, set}
use Rattle.vocabulary.specs.{sym, ap, ◌∙◌, le_of_suc-le-suc, not-suc-le-zero, add_assoc, mul-suc}
use Rattle.vocabulary.specs.{add-one}
use Rattle.whole.specs.Lists.{listed}
use Rattle.whole.proofs.Lists.{Filled, filled_more, filled_all, listed_get_or}
use Rattle.sheet_reader.specs.declared.columns.Column.{Column}

take_listed : {A : Type 0} (k n : ℕ) (value : ℕ → A) → k ≤ n → take k (listed n value) ≡ listed k value
unfolding listed
take_listed zero n value h = refl
take_listed (suc k) zero value h = absurd (not-suc-le-zero h)
take_listed {A} (suc k) (suc n) value h = ap (λ (l : List A). value 0 ∷ l) (take_listed k n (λ i. value (suc i)) (le_of_suc-le-suc h))

-- the first values of a list, by their indexes
pub first_values_lem : {A : Type 0} (k : ℕ) (values : List A) (d : A) → k ≤ length values → listed k (λ i. get_or values i d) ≡ take k values
first_values_lem k values d h = sym (take_listed k (length values) (λ i. get_or values i d) h) ∙ ap (take k) (listed_get_or d values)

-- values of the column are taken so far into an array of n, and the next one stands at `at`
pub record TakenSoFar {A : Type 0} (n : ℕ) (value : ℕ → A) (c : Column) (taken at : ℕ) (values : List A) : Type 0 where
  pub filled : Filled n value taken values
  pub reached : at ≡ c.start + c.step * taken

next : (c : Column) (taken : ℕ) → c.start + c.step * (taken + 1) ≡ c.start + c.step * taken + c.step
next c taken = rw (add-one taken, mul-suc c.step taken) (sym (add_assoc c.start (c.step * taken) c.step))

module _ {A : Type 0} (n : ℕ) (value : ℕ → A) (c : Column) where
  module _ {taken at : ℕ} {values : List A} (h : TakenSoFar n value c taken at values) where
    pub taken_more : {v : A} → taken < n → v ≡ value taken → TakenSoFar n value c (taken + 1) (at + c.step) (set values taken v)
    taken_more l e = record {
      filled = filled_more h.filled l e;
      reached = ap (λ (k : ℕ). k + c.step) h.reached ∙ sym (next c taken);
    }

    pub taken_all : n ≤ taken → values ≡ listed n value
    taken_all past = filled_all h.filled past
