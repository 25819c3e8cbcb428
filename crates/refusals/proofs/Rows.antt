-- The law of every order: number k at place p is answered if and only if its row holds at p, at no lower place, and no row before it
-- holds anywhere; the operation is done if and only if no row holds; and no number is given that does not stand in the order. Assumes
-- nothing.
use Rattle.std.specs.Prelude.{Err, None, Ok, Option, Some}
use Rattle.refusals.specs.Numbers.{Verdict}
use Rattle.std.specs.Prelude.{ℕ, zero, suc, ◌≤◌, ◌<◌, Bool, true, false, cond, ◌&&◌, List, [], ◌∷◌, map, ◌↔◌, ◌⊎◌, ◌≡◌, refl, T, eqb}
use Rattle.vocabulary.specs.{inl, inr, ⊎_elim, sym, ap, ap₂, subst, ◌∙◌, arith, eqb→eq, list-get_or_map}
use Rattle.refusals.specs.declared.Refusal.{Refusal}
use Rattle.refusals.specs.{Questions.Question, Questions.asked}
use Rattle.refusals.specs.Numbers.{number_of, place_of, numbered, table_at, refusal_of, Told, told, refusal_told, verdict_told}
use Rattle.refusals.specs.Order.{Row, row, row_at, number, LowestAt, HoldsNowhere, Answers, NoneHolds, Stands, in_table, all_in_table, answer_of, fails_if, fails_at, lowest_place, verdict_of, judged}
use Rattle.refusals.proofs.{Answers.cons_passes, Decided.decided, Decided.decided_not}
use Rattle.refusals.proofs.Places.{LowestFailing, lowest_is, lowest_is_nowhere}

-- ---- the table by number

-- where the place is told as the place of the table, it is every place
same_numbers_lem : (p : ℕ) → map number_of (table_at p) ≡ map number_of (table_at 1)
same_numbers_lem p = refl

abbrev placed : ℕ → ℕ → ℕ
placed p column = cond (eqb column 1) p 0

same_places : (p : ℕ) → map place_of (table_at p) ≡ map (placed p) (map place_of (table_at 1))
same_places p = refl

numbered_map : {A B : Type 0} (f : A → B) (xs : List A) (k : ℕ) (d : A) → numbered (map f xs) k (f d) ≡ f (numbered xs k d)
numbered_map f xs zero d = refl
numbered_map f xs (suc i) d = list-get_or_map f xs i d

pub number_any : (k p : ℕ) → number_of (refusal_of k p) ≡ number_of (refusal_of k 1)
number_any k p =
    sym (numbered_map number_of (table_at p) k Refusal.NoSuchFigure)
    ∙ ap (λ (ns : List ℕ). numbered ns k 1) (same_numbers_lem p)
    ∙ numbered_map number_of (table_at 1) k Refusal.NoSuchFigure

pub place_any : (k p : ℕ) → place_of (refusal_of k p) ≡ placed p (place_of (refusal_of k 1))
place_any k p =
    sym (numbered_map place_of (table_at p) k Refusal.NoSuchFigure)
    ∙ ap (λ (ns : List ℕ). numbered ns k 0) (same_places p)
    ∙ numbered_map (placed p) (map place_of (table_at 1)) k 0
    ∙ ap (placed p) (numbered_map place_of (table_at 1) k Refusal.NoSuchFigure)

place_zero : (k : ℕ) → place_of (refusal_of k 0) ≡ 0
place_zero k = place_any k 0 ∙ same (eqb (place_of (refusal_of k 1)) 1)
  where
    same : (b : Bool) → ◌≡◌ {A = ℕ} (cond b 0 0) 0
    same true = refl
    same false = refl

both : (a b : Bool) → T (a && b) → T a × T b
both true b t = (tt, t)
both false b t = absurd t

-- a refusal of a row of the table tells the row's number, and the place
pub row_told : (k : ℕ) → T (eqb (number_of (refusal_of k 0)) k) → refusal_told (refusal_of k 0) ≡ told k 0
row_told k t = ap₂ told (eqb→eq (number_of (refusal_of k 0)) k t) (place_zero k)

pub row_at_told : (k p : ℕ) → T (eqb (number_of (refusal_of k 1)) k && eqb (place_of (refusal_of k 1)) 1) → refusal_told (refusal_of k p) ≡ told k p
row_at_told k p t =
    let parts = both (eqb (number_of (refusal_of k 1)) k) (eqb (place_of (refusal_of k 1)) 1) t in
    ap₂ told (number_any k p ∙ eqb→eq (number_of (refusal_of k 1)) k parts.0)
    (place_any k p ∙ ap (placed p) (eqb→eq (place_of (refusal_of k 1)) 1 parts.1))

-- ---- one row

-- what a row's verdict says
abbrev Says : Row → Verdict → Type 0
Says r (Ok tt) = HoldsNowhere r
Says r (Err refusal) = (p : ℕ) × (LowestAt r p) × (refusal_told refusal ≡ told (number r) p)

if_says : (k : ℕ) (q : Question) (t : Bool) → asked q ≡ t → T (in_table (row k q)) → Says (row k q) (fails_if t (refusal_of k 0))
if_says k q true e ok = (
  0,
  record { here = (refl, (decided q).0 e); at_no_lower = λ below l held. absurd (omega arith) },
  row_told k ok,
)
if_says k q false e ok = λ p held. (decided_not q).0 e held.1

module _ (k count : ℕ) (q : ℕ → Question) where
  abbrev fails : ℕ → Bool
  fails p = asked (q p)

  lowest_says : (p : ℕ) → LowestFailing fails count p → LowestAt (row_at k count q) p
  lowest_says p found = record {
    here = (found.from_one, found.within, (decided (q p)).0 found.fails_there);
    at_no_lower = λ below l held. (decided_not (q below)).0 (found.passes_below below held.0 l) held.2;
  }

  at_says : (lowest : Option ℕ) → lowest_place fails count ≡ lowest → T (in_table (row_at k count q)) → Says (row_at k count q) (fails_at (refusal_of k) lowest)
  at_says None e ok = λ p held. (decided_not (q p)).0 ((lowest_is_nowhere fails count).0 e p held.0 held.1) held.2
  at_says (Some p) e ok = (p, lowest_says p ((lowest_is fails count p).0 e), row_at_told k p ok)

row_says : (r : Row) → T (in_table r) → Says r (verdict_of r)
row_says (row k q) ok = if_says k q (asked q) refl ok
row_says (row_at k count q) ok = at_says k count q (lowest_place (λ p. asked (q p)) count) refl ok

-- a row that passes holds nowhere, whatever its number
pub row_passes : (r : Row) → verdict_of r ≡ Ok tt → HoldsNowhere r
row_passes (row k q) e = go (asked q) refl e
  where
    go : (t : Bool) → asked q ≡ t → fails_if t (refusal_of k 0) ≡ Ok tt → HoldsNowhere (row k q)
    go true a e = absurd (let z : ◌≡◌ {A = ℕ} 0 1 = cc in omega arith)
    go false a e = λ p held. (decided_not q).0 a held.1
row_passes (row_at k count q) e = go (lowest_place (fails k count q) count) refl e
  where
    go : (lowest : Option ℕ) → lowest_place (fails k count q) count ≡ lowest → fails_at (refusal_of k) lowest ≡ Ok tt → HoldsNowhere (row_at k count q)
    go None a e = λ p held. (decided_not (q p)).0 ((lowest_is_nowhere (fails k count q) count).0 a p held.0 held.1) held.2
    go (Some p) a e = absurd (let z : ◌≡◌ {A = ℕ} 0 1 = cc in omega arith)

-- ---- an order

one_more : (r : Row) (later : List Row) (k p : ℕ) (v : Verdict) → Says r v → (verdict_told (judged later) ≡ told k p → Answers later k p)
    → verdict_told (answer_of (v ∷ map verdict_of later)) ≡ told k p → Answers (r ∷ later) k p
unfolding answer_of
one_more r later k p (Ok tt) none rest e = inr (none, rest e)
one_more r later k p (Err refusal) some rest e =
    let is : told (number r) some.0 ≡ told k p = sym some.2 ∙ e in
    inl (sym (ap (λ (t : Told). t.number) is), subst (LowestAt r) (ap (λ (t : Told). t.place) is) some.1)

answers : (rows : List Row) → T (all_in_table rows) → (k p : ℕ) → verdict_told (judged rows) ≡ told k p → Answers rows k p
unfolding answer_of
answers [] ok k p e = (sym (ap (λ (t : Told). t.number) e), sym (ap (λ (t : Told). t.place) e))
answers (r ∷ later) ok k p e =
    let parts = both (in_table r) (all_in_table later) ok in
    one_more r later k p (verdict_of r) (row_says r parts.0) (answers later parts.1 k p) e

-- of one order there is one answer
lowest_once : (r : Row) (p q : ℕ) → LowestAt r p → LowestAt r q → p ≡ q
lowest_once r p q a b =
    let not_lower : ¬ (q < p) = λ l. a.at_no_lower q l b.here in
    let not-higher : ¬ (p < q) = λ l. b.at_no_lower p l a.here in
    omega arith

answers_once : (rows : List Row) (k p k' p' : ℕ) → Answers rows k p → Answers rows k' p' → told k p ≡ told k' p'
answers_once [] k p k' p' a b = ap₂ told (a.0 ∙ sym b.0) (a.1 ∙ sym b.1)
answers_once (r ∷ later) k p k' p' a b =
    ⊎_elim
    (λ here. ⊎_elim
    (λ there. ap₂ told (here.0 ∙ sym there.0) (lowest_once r p p' here.1 there.1))
    (λ after. absurd (after.0 p here.1.here)) b)
    (λ later-on. ⊎_elim
    (λ there. absurd (later-on.0 p' there.1.here))
    (λ after. answers_once later k p k' p' later-on.1 after.1) b) a

module _ (rows : List Row) (ok : T (all_in_table rows)) where
  -- number k at place p is answered if and only if the order says so
  pub answers_exactly : (k p : ℕ) → (verdict_told (judged rows) ≡ told k p) ↔ Answers rows k p
  answers_exactly k p = (
    answers rows ok k p,
    λ says. answers_once rows _ _ k p (answers rows ok _ _ refl) says,
  )

-- ---- done, and numbers that are never given

pub none_holds : (rows : List Row) → judged rows ≡ Ok tt → NoneHolds rows
unfolding answer_of
none_holds [] e = tt
none_holds (r ∷ later) e =
    let parts = (cons_passes (verdict_of r) (map verdict_of later)).0 e in
    (row_passes r parts.0, none_holds later parts.1)

none_answered : (rows : List Row) → NoneHolds rows → Answers rows 0 0
none_answered [] none = (refl, refl)
none_answered (r ∷ later) none = inr (none.0, none_answered later none.1)

-- every refusal has a number from 1 up, and of at most two digits
pub number_range : (r : Refusal) → (1 ≤ number_of r) × (number_of r ≤ 99)
number_range Refusal.NoSuchFigure = (omega arith, omega arith)
number_range Refusal.WrongLength = (omega arith, omega arith)
number_range Refusal.LimitOrToleranceOutOfRange = (omega arith, omega arith)
number_range (Refusal.AngleOutOfRange angle) = (omega arith, omega arith)
number_range (Refusal.FixedAngleOutOfRange fixed) = (omega arith, omega arith)
number_range (Refusal.MisclosureBeyondLimit condition) = (omega arith, omega arith)
number_range (Refusal.ResultOutOfRange angle) = (omega arith, omega arith)
number_range (Refusal.SineEntryOutOfRange angle) = (omega arith, omega arith)
number_range Refusal.SineMisclosureBeyondTolerance = (omega arith, omega arith)
number_range Refusal.SumOfSquaresIsZero = (omega arith, omega arith)
number_range Refusal.NoSuchKind = (omega arith, omega arith)
number_range Refusal.WrongSheetLength = (omega arith, omega arith)
number_range Refusal.FillingBitSet = (omega arith, omega arith)
number_range Refusal.FixedAnglesDoNotSum = (omega arith, omega arith)
number_range Refusal.ChoiceDoesNotClose = (omega arith, omega arith)
number_range (Refusal.RoundsOutOfRange angle) = (omega arith, omega arith)

pub no_zero : (r : Refusal) → number_of r ≡ 0 → ⊥
no_zero r e = omega (arith, (number_range r).0)

-- an operation tells 0 at 0 only if it is done
pub passed_told : (v : Verdict) → verdict_told v ≡ told 0 0 → v ≡ Ok tt
passed_told (Ok tt) e = refl
passed_told (Err refusal) e = absurd (no_zero refusal (ap (λ (t : Told). t.number) e))

module _ (rows : List Row) (ok : T (all_in_table rows)) where
  pub done_exactly : (judged rows ≡ Ok tt) ↔ NoneHolds rows
  done_exactly = (none_holds rows, λ none. passed_told (judged rows) ((answers_exactly rows ok 0 0).1 (none_answered rows none)))

pub answered_stands : (rows : List Row) (k p : ℕ) → Answers rows k p → (k ≡ 0) ⊎ Stands k rows
answered_stands [] k p a = inl a.0
answered_stands (r ∷ later) k p a =
    ⊎_elim (λ here. inr (inl here.0)) (λ after. ⊎_elim (λ zero. inl zero) (λ stands. inr (inr stands)) (answered_stands later k p after.1)) a
