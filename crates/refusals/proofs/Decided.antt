-- What a question asks is computed: `asked` is true exactly if its case holds. Assumes nothing.
use Rattle.std.specs.Prelude.{ℕ, zero, suc, ◌≤◌, ◌<◌, Bool, true, false, not, ◌||◌, List, [], ◌∷◌, ◌↔◌, ◌⊎◌, ◌≡◌, refl, T, eqb, ℤ, pos}
use Rattle.std.specs.Prelude.{negsuc, nat_abs, length, get_or, ◌≤ℤ◌, ◌<ℤ◌}
use Rattle.vocabulary.specs.{zero-le, suc-le-suc, true≢false, false≢true, inl, inr, ⊎_elim, sym, ap, subst, ◌∙◌, dec_lt, le_of_suc-le-suc}
use Rattle.vocabulary.specs.{not-suc-le-zero, arith, ltb-true, lt-ltb, eqb-true, eq-eqb, not-true, lt_z, lt_z_yes, lt_z_no, clash_ℤ}
use Rattle.refusals.specs.Questions.{Question, less, less_signed, unequal, differ, none_of, is_zero, some_one, either, some_at, Holds, IsNoneOf, asked, same_numbers, among, any_one, any_place}
use Rattle.refusals.proofs.NumberLists.{same_lists, same_itself}

pub not_so : (test : Bool) → (test ≡ true → ⊥) → test ≡ false
not_so true h = absurd (h refl)
not_so false h = refl

-- a test that is turned round holds exactly if what it tests does not
turned : (test : Bool) {P : Type 0} → (test ≡ true) ↔ P → (not test ≡ true) ↔ (P → ⊥)
turned test is = (
  λ e p. true≢false (sym (is.1 p) ∙ not-true test e),
  λ none. ap not (not_so test (λ e. none (is.0 e))),
)

one_or_other : (a b : Bool) {P Q : Type 0} → (a ≡ true) ↔ P → (b ≡ true) ↔ Q → ((a || b) ≡ true) ↔ (P ⊎ Q)
one_or_other true b p q = (λ e. inl (p.0 refl), λ one. refl)
one_or_other false b p q = (λ e. inr (q.0 e), ⊎_elim (λ l. absurd (false≢true (p.1 l))) q.1)

is_true : (t : Bool) → T t → t ≡ true
is_true true h = refl
is_true false h = absurd h

signed_less : (a b : ℤ) → (lt_z a b ≡ true) ↔ (a <ℤ b)
signed_less a b = (λ e. lt_z_yes (subst T (sym e) tt), λ l. is_true (lt_z a b) l.lt)

same : (xs ys : List ℕ) → (same_numbers xs ys ≡ true) ↔ (xs ≡ ys)
same xs ys = (same_lists xs ys, λ e. ap (same_numbers xs) (sym e) ∙ same_itself xs)

one_more : (a b : Bool) {P Q : Type 0} → (a ≡ true) ↔ P → (not b ≡ true) ↔ Q → (not (a || b) ≡ true) ↔ ((P → ⊥) × Q)
one_more true b p q = (λ e. absurd (false≢true e), λ none. absurd (none.0 (p.0 refl)))
one_more false b p q = (λ e. (λ holds. false≢true (p.1 holds), q.0 e), λ none. q.1 none.1)

none_of_lem : (xs : List ℕ) (others : List (List ℕ)) → (not (among xs others) ≡ true) ↔ IsNoneOf xs others
none_of_lem xs [] = (λ e. tt, λ none. refl)
none_of_lem xs (other ∷ others) = one_more (same_numbers xs other) (among xs others) (same xs other) (none_of_lem xs others)

zero_magnitude : (z : ℤ) → nat_abs z ≡ 0 → z ≡ pos 0
zero_magnitude (pos n) e = ap pos e
zero_magnitude (negsuc n) e = absurd (omega arith)

abbrev SomeOne : List Bool → Type 0
SomeOne bits = (i : ℕ) × (i < length bits) × (get_or bits i false ≡ true)

later : (bits : List Bool) (i : ℕ) → i < suc (length bits) → get_or (false ∷ bits) i false ≡ true → SomeOne bits
later bits zero l e = absurd (false≢true e)
later bits (suc i) l e = (i, le_of_suc-le-suc l, e)

some_one_lem : (bits : List Bool) → (any_one bits ≡ true) ↔ SomeOne bits
some_one_lem [] = (λ e. absurd (false≢true e), λ some. absurd (not-suc-le-zero some.1))
some_one_lem (true ∷ bits) = (λ e. (zero, suc-le-suc zero-le, refl), λ some. refl)
some_one_lem (false ∷ bits) = (
  λ e. let some = (some_one_lem bits).0 e in (suc some.0, suc-le-suc some.1, some.2),
  λ some. (some_one_lem bits).1 (later bits some.0 some.1 some.2),
)

some_place : (places : ℕ) (holds : ℕ → Bool) (P : ℕ → Type 0) → ((p : ℕ) → (holds p ≡ true) ↔ P p)
    → (any_place places holds ≡ true) ↔ ((p : ℕ) × (1 ≤ p) × (p ≤ places) × P p)
some_place zero holds P is = (λ e. absurd (false≢true e), λ some. absurd (omega (arith, some.1, some.2)))
some_place (suc places) holds P is =
    let before = some_place places holds P is in
    let both = one_or_other (any_place places holds) (holds (suc places)) before (is (suc places)) in (
      λ e. ⊎_elim
          (λ some. (some.0, some.1, omega (arith, some.2), some.3))
          (λ here. (suc places, suc-le-suc zero-le, omega arith, here)) (both.0 e),
      λ some. both.1 (last some.0 (dec_lt places some.0) some.1 some.2 some.3),
    )
  where
    last : (p : ℕ) → Dec (places < p) → 1 ≤ p → p ≤ suc places → P p → ((p : ℕ) × (1 ≤ p) × (p ≤ places) × P p) ⊎ P (suc places)
    last p (yes beyond) low high held = inr (subst P (omega (arith, beyond, high)) held)
    last p (no within) low high held = inl (p, low, omega (arith, within), held)

pub decided : (q : Question) → (asked q ≡ true) ↔ Holds q
decided (less a b) = (ltb-true a b, lt-ltb a b)
decided (less_signed a b) = signed_less a b
decided (unequal a b) = turned (eqb a b) (eqb-true a b, eq-eqb a b)
decided (differ xs ys) = turned (same_numbers xs ys) (same xs ys)
decided (none_of xs others) = none_of_lem xs others
decided (is_zero z) = (λ e. zero_magnitude z (eqb-true (nat_abs z) 0 e), λ e. eq-eqb (nat_abs z) 0 (ap nat_abs e))
decided (some_one bits) = some_one_lem bits
decided (either q r) = one_or_other (asked q) (asked r) (decided q) (decided r)
decided (some_at places q) = some_place places (λ p. asked (q p)) (λ p. Holds (q p)) (λ p. decided (q p))

-- not asked exactly if its case does not hold
pub decided_not : (q : Question) → (asked q ≡ false) ↔ (Holds q → ⊥)
decided_not q = (
  λ e h. true≢false (sym ((decided q).1 h) ∙ e),
  λ none. not_so (asked q) (λ e. none ((decided q).0 e)),
)

-- a signed number is not below another exactly if it is at least as large
pub not_less_signed : (a b : ℤ) → (lt_z a b ≡ false) ↔ (b ≤ℤ a)
not_less_signed a b = (
  λ e. lt_z_no (subst (λ (t : Bool). T (not t)) (sym e) tt),
  λ l. not_so (lt_z a b) (λ e. clash_ℤ ((signed_less a b).0 e) l),
)
