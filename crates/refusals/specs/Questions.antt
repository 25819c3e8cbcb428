-- What the table asks: document 01, "Numbers given when a sheet is turned back", the column "Given when". A question is data: `Holds`
-- says what it means that its case holds, and `asked` computes whether it does. That the two agree is one law, `decided`
-- (proofs/Decided.antt).
use Rattle.std.specs.Prelude.{ℕ, zero, suc, ◌≤◌, ◌<◌, Bool, true, false, not, ◌||◌, ◌&&◌, List, [], ◌∷◌, ◌⊎◌, ◌≡◌, eqb, ltb, ℤ, pos}
use Rattle.std.specs.Prelude.{nat_abs, length, get_or, ◌<ℤ◌}
use Rattle.vocabulary.specs.{lt_z}

pub data Question : Type 0 where
  -- a number is less than another; the same of signed numbers
  less : (a b : ℕ) → Question
  less_signed : (a b : ℤ) → Question
  -- two numbers, and two lists of numbers, are not the same
  unequal : (a b : ℕ) → Question
  differ : (xs ys : List ℕ) → Question
  -- a list of numbers is none of some
  none_of : (xs : List ℕ) → (others : List (List ℕ)) → Question
  -- a signed number is 0
  is_zero : ℤ → Question
  -- some bit is 1
  some_one : List Bool → Question
  -- one question or another
  either : Question → Question → Question
  -- a question at some of the places 1, 2, .., places
  some_at : (places : ℕ) → (ℕ → Question) → Question

-- ---- what it means that a case holds

abbrev pub IsNoneOf : List ℕ → List (List ℕ) → Type 0
IsNoneOf xs [] = Unit {0}
IsNoneOf xs (other ∷ others) = (xs ≡ other → ⊥) × IsNoneOf xs others

abbrev pub Holds : Question → Type 0
Holds (less a b) = a < b
Holds (less_signed a b) = a <ℤ b
Holds (unequal a b) = a ≡ b → ⊥
Holds (differ xs ys) = xs ≡ ys → ⊥
Holds (none_of xs others) = IsNoneOf xs others
Holds (is_zero z) = z ≡ pos 0
Holds (some_one bits) = (i : ℕ) × (i < length bits) × (get_or bits i false ≡ true)
Holds (either q r) = Holds q ⊎ Holds r
Holds (some_at places q) = (p : ℕ) × (1 ≤ p) × (p ≤ places) × Holds (q p)

-- ---- how it is computed

-- two lists of numbers are the same
abbrev pub same_numbers : List ℕ → List ℕ → Bool
same_numbers [] [] = true
same_numbers [] (y ∷ ys) = false
same_numbers (x ∷ xs) [] = false
same_numbers (x ∷ xs) (y ∷ ys) = eqb x y && same_numbers xs ys

abbrev pub among : List ℕ → List (List ℕ) → Bool
among xs [] = false
among xs (other ∷ others) = same_numbers xs other || among xs others

abbrev pub any_one : List Bool → Bool
any_one [] = false
any_one (bit ∷ bits) = bit || any_one bits

abbrev pub any_place : (places : ℕ) → (holds : ℕ → Bool) → Bool
any_place zero holds = false
any_place (suc places) holds = any_place places holds || holds (suc places)

abbrev pub asked : Question → Bool
asked (less a b) = ltb a b
asked (less_signed a b) = lt_z a b
asked (unequal a b) = not (eqb a b)
asked (differ xs ys) = not (same_numbers xs ys)
asked (none_of xs others) = not (among xs others)
asked (is_zero z) = eqb (nat_abs z) 0
asked (some_one bits) = any_one bits
asked (either q r) = asked q || asked r
asked (some_at places q) = any_place places (λ p. asked (q p))

-- ---- a value lies outside least..most; both ends are inside

abbrev pub outside : (least most value : ℕ) → Question
outside least most value = either (less value least) (less most value)

abbrev pub outside_signed : (least most value : ℤ) → Question
outside_signed least most value = either (less_signed value least) (less_signed most value)
