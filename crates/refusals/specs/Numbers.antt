-- The table of document 01, "Numbers given when a sheet is turned back", with what document 02 adds to it: the number of each refusal,
-- and its place.
use Rattle.std.specs.Prelude.{ℕ, zero, suc, List, [], ◌∷◌, get_or, Result, Ok, Err}
use Rattle.refusals.specs.declared.Refusal.{Refusal}

-- the column "No."
abbrev pub number_of : Refusal → ℕ
number_of Refusal.NoSuchFigure = 1
number_of Refusal.WrongLength = 2
number_of Refusal.LimitOrToleranceOutOfRange = 3
number_of (Refusal.AngleOutOfRange angle) = 4
number_of (Refusal.FixedAngleOutOfRange fixed) = 5
number_of (Refusal.MisclosureBeyondLimit condition) = 6
number_of (Refusal.ResultOutOfRange angle) = 7
number_of (Refusal.SineEntryOutOfRange angle) = 8
number_of Refusal.SineMisclosureBeyondTolerance = 9
number_of Refusal.SumOfSquaresIsZero = 10
number_of Refusal.NoSuchKind = 11
number_of Refusal.WrongSheetLength = 12
number_of Refusal.FillingBitSet = 13
number_of Refusal.FixedAnglesDoNotSum = 14
number_of Refusal.ChoiceDoesNotClose = 15
number_of (Refusal.RoundsOutOfRange angle) = 16

-- the column "Place"
abbrev pub place_of : Refusal → ℕ
place_of Refusal.NoSuchFigure = 0
place_of Refusal.WrongLength = 0
place_of Refusal.LimitOrToleranceOutOfRange = 0
place_of (Refusal.AngleOutOfRange angle) = angle
place_of (Refusal.FixedAngleOutOfRange fixed) = fixed
place_of (Refusal.MisclosureBeyondLimit condition) = condition
place_of (Refusal.ResultOutOfRange angle) = angle
place_of (Refusal.SineEntryOutOfRange angle) = angle
place_of Refusal.SineMisclosureBeyondTolerance = 0
place_of Refusal.SumOfSquaresIsZero = 0
place_of Refusal.NoSuchKind = 0
place_of Refusal.WrongSheetLength = 0
place_of Refusal.FillingBitSet = 0
place_of Refusal.FixedAnglesDoNotSum = 0
place_of Refusal.ChoiceDoesNotClose = 0
place_of (Refusal.RoundsOutOfRange angle) = angle

-- ---- the table by number

-- the value with a number, counted from 1; `other` where there is none
abbrev pub numbered : {A : Type 0} → List A → ℕ → A → A
numbered values zero other = other
numbered values (suc i) other = get_or values i other

-- the rows of the table in their order, at a place
abbrev pub table_at : (place : ℕ) → List Refusal
table_at place =
    Refusal.NoSuchFigure
    ∷ Refusal.WrongLength
    ∷ Refusal.LimitOrToleranceOutOfRange
    ∷ Refusal.AngleOutOfRange place
    ∷ Refusal.FixedAngleOutOfRange place
    ∷ Refusal.MisclosureBeyondLimit place
    ∷ Refusal.ResultOutOfRange place
    ∷ Refusal.SineEntryOutOfRange place
    ∷ Refusal.SineMisclosureBeyondTolerance
    ∷ Refusal.SumOfSquaresIsZero
    ∷ Refusal.NoSuchKind
    ∷ Refusal.WrongSheetLength
    ∷ Refusal.FillingBitSet
    ∷ Refusal.FixedAnglesDoNotSum
    ∷ Refusal.ChoiceDoesNotClose
    ∷ Refusal.RoundsOutOfRange place
    ∷ []

-- the refusal with a number of the table, at a place
abbrev pub refusal_of : (number place : ℕ) → Refusal
refusal_of number place = numbered (table_at place) number Refusal.NoSuchFigure

-- ---- what is answered, as number and place: 0 and 0 when it is done

pub record Told : Type 0 where
  pub number : ℕ
  pub place : ℕ

abbrev pub told : (number place : ℕ) → Told
told k p = record { number = k; place = p }

abbrev pub refusal_told : Refusal → Told
refusal_told refusal = told (number_of refusal) (place_of refusal)

-- what a test answers: that it passed, or why the sheet is turned back
abbrev pub Verdict : Type 0
Verdict = Result (Unit {0}) Refusal

abbrev pub verdict_told : Verdict → Told
verdict_told (Ok tt) = told 0 0
verdict_told (Err refusal) = refusal_told refusal
