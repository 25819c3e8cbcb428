-- What a test over a whole list or a run of numbers, which antt computes, says of each entry once it has passed. Assumes nothing.
use Rattle.std.specs.Prelude.{Bool, true, false, ◌&&◌, List, [], ◌∷◌, ℕ, zero, suc, ◌<◌, T, length, get_or}
use Rattle.vocabulary.specs.{le_of_suc-le-suc, not-suc-le-zero}
use Rattle.whole.specs.Lists.{every, every_below}

pub and_left : (a b : Bool) → T (a && b) → T a
and_left true b t = tt
and_left false b t = t

pub and_right : (a b : Bool) → T (a && b) → T b
and_right true b t = t
and_right false b t = absurd t

pub every_at : {A : Type 0} (test : A → Bool) (xs : List A) → T (every test xs) → (i : ℕ) (d : A) → i < length xs → T (test (get_or xs i d))
every_at test [] t i d h = absurd (not-suc-le-zero h)
every_at test (x ∷ xs) t zero d h = and_left (test x) (every test xs) t
every_at test (x ∷ xs) t (suc i) d h = every_at test xs (and_right (test x) (every test xs) t) i d (le_of_suc-le-suc h)

pub every_below_lem : (n : ℕ) (test : ℕ → Bool) → T (every_below n test) → (i : ℕ) → i < n → T (test i)
every_below_lem zero test t i h = absurd (not-suc-le-zero h)
every_below_lem (suc n) test t zero h = and_left (test zero) (every_below n (λ k. test (suc k))) t
every_below_lem (suc n) test t (suc i) h =
    every_below_lem n (λ k. test (suc k)) (and_right (test zero) (every_below n (λ k. test (suc k))) t) i (le_of_suc-le-suc h)
