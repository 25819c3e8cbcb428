-- No order answers a place past the most that its rows have. Assumes nothing.
use Rattle.std.specs.Prelude.{ℕ, ◌≤◌, List, [], ◌∷◌, refl, T}
use Rattle.vocabulary.specs.{zero-le, ⊎_elim, sym, subst, le_trans}
use Rattle.refusals.specs.Numbers.{verdict_told}
use Rattle.refusals.specs.Order.{Row, row, row_at, HoldsNowhere, Answers, all_in_table, judged}
use Rattle.refusals.proofs.Rows.{answers_exactly}

-- each row has at most so many places, where no row before it holds
abbrev pub PlacesWithin : (most : ℕ) → List Row → Type 0
PlacesWithin most [] = Unit {0}
PlacesWithin most (row k question ∷ later) = HoldsNowhere (row k question) → PlacesWithin most later
PlacesWithin most (row_at k places question ∷ later) = (places ≤ most) × (HoldsNowhere (row_at k places question) → PlacesWithin most later)

answered_within : (most : ℕ) (rows : List Row) → PlacesWithin most rows → (k p : ℕ) → Answers rows k p → p ≤ most
answered_within most [] within k p a = subst (λ (q : ℕ). q ≤ most) (sym a.1) zero-le
answered_within most (row number question ∷ later) within k p a =
    ⊎_elim (λ here. subst (λ (q : ℕ). q ≤ most) (sym here.1.here.0) zero-le) (λ after. answered_within most later (within after.0) k p after.1) a
answered_within most (row_at number places question ∷ later) within k p a =
    ⊎_elim (λ here. le_trans here.1.here.1 within.0) (λ after. answered_within most later (within.1 after.0) k p after.1) a

pub place_within : (most : ℕ) (rows : List Row) → T (all_in_table rows) → PlacesWithin most rows → (verdict_told (judged rows)).place ≤ most
place_within most rows ok within = answered_within most rows within _ _ ((answers_exactly rows ok _ _).0 refl)
