-- Lists made by a rule, lists brought to a fixed length as the arrays of the code have it, values copied over others, and tests of every
-- entry.
use Rattle.std.specs.Prelude.{ℕ, zero, suc, Bool, true, ◌&&◌, cond, eqb, List, [], ◌∷◌, length}

module _ {A : Type 0} where
  -- f 0, f 1, .., f (n − 1)
  unfoldable pub listed : ℕ → (ℕ → A) → List A
  listed zero f = []
  listed (suc n) f = f zero ∷ listed n (λ i. f (suc i))

  -- the first n of xs, and d in the places that xs leaves
  abbrev pub padded : ℕ → A → List A → List A
  padded zero d xs = []
  padded (suc n) d [] = d ∷ padded n d []
  padded (suc n) d (x ∷ xs) = x ∷ padded n d xs

  -- values copied over others, where they are as many
  abbrev pub copied_over : (values others : List A) → List A
  copied_over values others = cond (eqb (length values) (length others)) values others

  -- every entry passes the test
  abbrev pub every : (A → Bool) → List A → Bool
  every test [] = true
  every test (x ∷ xs) = test x && every test xs

-- every number below n passes the test
abbrev pub every_below : ℕ → (ℕ → Bool) → Bool
every_below zero test = true
every_below (suc n) test = test zero && every_below n (λ k. test (suc k))
