-- A slice of one or two values, each of which has been stored. Assumes nothing.
use Rattle.std.specs.Prelude.{◌<◌, ◌≤◌, List, [], ◌∷◌, ◌≡◌, refl, length, set, take}
use Rattle.vocabulary.specs.{arith}

pub stored-1 : {A : Type 0} (l : List A) (a : A) → length l ≡ 1 → set l 0 a ≡ a ∷ []
stored-1 [] a e = absurd (omega arith)
stored-1 (x ∷ []) a e = refl
stored-1 (x ∷ y ∷ l) a e = absurd (omega arith)

pub stored-2 : {A : Type 0} (l : List A) (a b : A) → length l ≡ 2 → set (set l 0 a) 1 b ≡ a ∷ b ∷ []
stored-2 [] a b e = absurd (omega arith)
stored-2 (x ∷ []) a b e = absurd (omega arith)
stored-2 (x ∷ y ∷ []) a b e = refl
stored-2 (x ∷ y ∷ z ∷ l) a b e = absurd (omega arith)

-- as many of two values as there is room for
pub first_of_two : {A : Type 0} (l : List A) (a b : A) → 1 ≤ length l → length l ≤ 1 → set l 0 a ≡ take (length l) (a ∷ b ∷ [])
first_of_two [] a b some few = absurd (omega arith)
first_of_two (x ∷ []) a b some few = refl
first_of_two (x ∷ y ∷ l) a b some few = absurd (omega arith)

pub both_of_two : {A : Type 0} (l : List A) (a b : A) → 1 < length l → length l ≤ 2 → set (set l 0 a) 1 b ≡ take (length l) (a ∷ b ∷ [])
both_of_two [] a b more few = absurd (omega arith)
both_of_two (x ∷ []) a b more few = absurd (omega arith)
both_of_two (x ∷ y ∷ []) a b more few = refl
both_of_two (x ∷ y ∷ z ∷ l) a b more few = absurd (omega arith)
