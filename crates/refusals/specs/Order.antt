-- How an operation answers: document 01, "Numbers given when a sheet is turned back". Its order is one list of rows, each with its number
-- and its stated case. The first row that holds anywhere is answered, at its lowest place. Places are counted from 1, as the paper counts
-- angles and conditions; a row without a place has place 0.
use Rattle.std.specs.Prelude.{Err, None, Ok, Option, Some}
use Rattle.refusals.specs.Numbers.{Verdict}
use Rattle.std.specs.Prelude.{ℕ, zero, suc, ◌≤◌, ◌<◌, Bool, true, false, ◌&&◌, List, [], ◌∷◌, map, ◌⊎◌, ◌≡◌, eqb}
use Rattle.refusals.specs.declared.Refusal.{Refusal}
use Rattle.refusals.specs.{Numbers.number_of, Numbers.place_of, Numbers.refusal_of, Questions.Question, Questions.Holds, Questions.asked}

-- ---- rows

pub data Row : Type 0 where
  -- its number and its stated case
  row : (number : ℕ) → Question → Row
  -- its number, how many places there are, and its stated case at each
  row_at : (number places : ℕ) → (ℕ → Question) → Row

abbrev pub number : Row → ℕ
number (row k question) = k
number (row_at k places question) = k

-- the stated case of a row holds at a place
abbrev pub HoldsAt : Row → (place : ℕ) → Type 0
HoldsAt (row k question) p = (p ≡ 0) × Holds question
HoldsAt (row_at k places question) p = (1 ≤ p) × (p ≤ places) × Holds (question p)

-- it holds at this place, and at no lower one
pub record LowestAt (r : Row) (place : ℕ) : Type 0 where
  pub here : HoldsAt r place
  pub at_no_lower : (q : ℕ) → q < place → HoldsAt r q → ⊥

-- it holds at no place
abbrev pub HoldsNowhere : Row → Type 0
HoldsNowhere r = (p : ℕ) → HoldsAt r p → ⊥

-- ---- what an order answers, as number and place

-- number k at place p: the first row that holds anywhere has number k, and p is its lowest place; 0 at 0 where no row holds
abbrev pub Answers : List Row → (k p : ℕ) → Type 0
Answers [] k p = (k ≡ 0) × (p ≡ 0)
Answers (r ∷ later) k p = ((k ≡ number r) × LowestAt r p) ⊎ (HoldsNowhere r × Answers later k p)

abbrev pub NoneHolds : List Row → Type 0
NoneHolds [] = Unit {0}
NoneHolds (r ∷ later) = HoldsNowhere r × NoneHolds later

-- a number stands in an order
abbrev pub Stands : (k : ℕ) → List Row → Type 0
Stands k [] = ⊥
Stands k (r ∷ later) = (k ≡ number r) ⊎ Stands k later

-- every row of an order is one of the table's, with a place where the table has one
abbrev pub in_table : Row → Bool
in_table (row k question) = eqb (number_of (refusal_of k 0)) k
in_table (row_at k places question) = eqb (number_of (refusal_of k 1)) k && eqb (place_of (refusal_of k 1)) 1

abbrev pub all_in_table : List Row → Bool
all_in_table [] = true
all_in_table (r ∷ later) = in_table r && all_in_table later

-- ---- how the answer is computed

-- the answer of a list of tests: the first that fails, or passed if none does
unfoldable pub answer_of : List Verdict → Verdict
answer_of [] = Ok tt
answer_of ((Ok tt) ∷ later) = answer_of later
answer_of (Err refusal ∷ later) = Err refusal

-- a test that has no place: it fails with its refusal if its case holds
abbrev pub fails_if : (holds : Bool) → Refusal → Verdict
fails_if true refusal = Err refusal
fails_if false refusal = Ok tt

-- a test that has a place: it fails with its refusal at the lowest place where its case holds
abbrev pub fails_at : (refusal : ℕ → Refusal) → Option ℕ → Verdict
fails_at refusal None = Ok tt
fails_at refusal (Some place) = Err (refusal place)

-- what a search says after one place more: the place that it found before, or else this one if the test fails here
abbrev pub or_here : (found : Option ℕ) → (fails : Bool) → (here : ℕ) → Option ℕ
or_here (Some place) fails here = Some place
or_here None true here = Some here
or_here None false here = None

-- the lowest of the places 1, 2, .., count at which a test fails, asked of each place in rising order
unfoldable pub lowest_place : (fails : ℕ → Bool) → (count : ℕ) → Option ℕ
lowest_place fails zero = None
lowest_place fails (suc count) = or_here (lowest_place fails count) (fails (suc count)) (suc count)

abbrev pub verdict_of : Row → Verdict
verdict_of (row k question) = fails_if (asked question) (refusal_of k 0)
verdict_of (row_at k places question) = fails_at (refusal_of k) (lowest_place (λ p. asked (question p)) places)

-- what an operation answers by its order
abbrev pub judged : List Row → Verdict
judged rows = answer_of (map verdict_of rows)
