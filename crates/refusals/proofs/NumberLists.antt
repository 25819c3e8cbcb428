-- Lists of numbers, compared and added up one by one. Assumes nothing.
use Rattle.std.specs.Prelude.{◌≡◌, refl, Bool, true, false, ◌&&◌, List, [], ◌∷◌, ℕ, suc, ◌+◌, ◌<◌, eqb, length, get_or, drop}
use Rattle.vocabulary.specs.{sym, ap, ap₂, ◌∙◌, false≢true, add-one, eqb-true, eq-eqb, ne_eqb, drop-cons, drop-length}
use Rattle.refusals.specs.{Questions.same_numbers, Table.sum_of_all}

and-false : (a : Bool) {b : Bool} → b ≡ false → (a && b) ≡ false
and-false true e = e
and-false false e = refl

pub lengths_differ : (a b : List ℕ) → (length a ≡ length b → ⊥) → same_numbers a b ≡ false
lengths_differ [] [] h = absurd (h refl)
lengths_differ [] (m ∷ ms) h = refl
lengths_differ (l ∷ ls) [] h = refl
lengths_differ (l ∷ ls) (m ∷ ms) h = and-false (eqb l m) (lengths_differ ls ms (λ e. h (ap suc e)))

one_further : (a b : List ℕ) (i : ℕ) → i < length a → i < length b
    → same_numbers (drop i a) (drop i b) ≡ (eqb (get_or a i 0) (get_or b i 0) && same_numbers (drop (i + 1) a) (drop (i + 1) b))
one_further a b i h k =
    ap₂ same_numbers (drop-cons a i 0 h) (drop-cons b i 0 k)
    ∙ ap (λ (n : ℕ). eqb (get_or a i 0) (get_or b i 0) && same_numbers (drop n a) (drop n b)) (sym (add-one i))

pub one_same : (a b : List ℕ) (i : ℕ) → i < length a → i < length b → get_or a i 0 ≡ get_or b i 0
    → same_numbers (drop i a) (drop i b) ≡ same_numbers (drop (i + 1) a) (drop (i + 1) b)
one_same a b i h k e =
    one_further a b i h k ∙ ap (λ (t : Bool). t && same_numbers (drop (i + 1) a) (drop (i + 1) b)) (eq-eqb (get_or a i 0) (get_or b i 0) e)

pub one_differs : (a b : List ℕ) (i : ℕ) → i < length a → i < length b → (get_or a i 0 ≡ get_or b i 0 → ⊥)
    → same_numbers (drop i a) (drop i b) ≡ false
one_differs a b i h k e =
    one_further a b i h k ∙ ap (λ (t : Bool). t && same_numbers (drop (i + 1) a) (drop (i + 1) b)) (ne_eqb (get_or a i 0) (get_or b i 0) e)

pub all_same : (a b : List ℕ) → length a ≡ length b → same_numbers (drop (length a) a) (drop (length a) b) ≡ true
all_same a b e = ap₂ same_numbers (drop-length a) (ap (λ (n : ℕ). drop n b) e ∙ drop-length b)

both : (a b : Bool) → (a && b) ≡ true → (a ≡ true) × (b ≡ true)
both true b e = (refl, e)
both false b e = absurd (false≢true e)

-- lists that compare as the same are the same
pub same_lists : (a b : List ℕ) → same_numbers a b ≡ true → a ≡ b
same_lists [] [] e = refl
same_lists [] (m ∷ ms) e = absurd (false≢true e)
same_lists (l ∷ ls) [] e = absurd (false≢true e)
same_lists (l ∷ ls) (m ∷ ms) e =
    let parts = both (eqb l m) (same_numbers ls ms) e in
    ap₂ ◌∷◌ (eqb-true l m parts.0) (same_lists ls ms parts.1)

pub same_itself : (a : List ℕ) → same_numbers a a ≡ true
same_itself [] = refl
same_itself (l ∷ ls) = ap (λ (t : Bool). t && same_numbers ls ls) (eq-eqb l l refl) ∙ same_itself ls

-- ---- what is left of a sum

pub sum_next : (values : List ℕ) (i : ℕ) → i < length values → sum_of_all (drop i values) ≡ get_or values i 0 + sum_of_all (drop (i + 1) values)
sum_next values i h = ap sum_of_all (drop-cons values i 0 h) ∙ ap (λ (n : ℕ). get_or values i 0 + sum_of_all (drop n values)) (sym (add-one i))

pub sum_past : (values : List ℕ) → sum_of_all (drop (length values) values) ≡ 0
sum_past values = ap sum_of_all (drop-length values)
