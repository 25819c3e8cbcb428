-- A search for the lowest place says p exactly if the test fails at p and at no lower place, and says that there is none exactly if it
-- fails at no place. By induction over the count of places; what a search says of the places determines its answer.
use Rattle.std.specs.Prelude.{None, Option, Some}
use Rattle.std.specs.Prelude.{ℕ, zero, suc, ◌≤◌, ◌<◌, Bool, true, false, ◌↔◌, ◌≡◌, refl}
use Rattle.vocabulary.specs.{true≢false, ⊎_elim, sym, ap, subst, ◌∙◌, eq-or-lt_of_le, arith}
use Rattle.refusals.specs.Order.{lowest_place, or_here}

-- of the places 1, 2, .., count, the test fails at p and at no lower one
pub record LowestFailing (fails : ℕ → Bool) (count p : ℕ) : Type 0 where
  pub from_one : 1 ≤ p
  pub within : p ≤ count
  pub fails_there : fails p ≡ true
  pub passes_below : (q : ℕ) → 1 ≤ q → q < p → fails q ≡ false

-- the test fails at none of the places 1, 2, .., count
abbrev pub FailsNowhere : (ℕ → Bool) → ℕ → Type 0
FailsNowhere fails count = (q : ℕ) → 1 ≤ q → q ≤ count → fails q ≡ false

abbrev Says : (ℕ → Bool) → ℕ → Option ℕ → Type 0
Says fails count None = FailsNowhere fails count
Says fails count (Some p) = LowestFailing fails count p

module _ (fails : ℕ → Bool) where
  one_more : (count : ℕ) (lower : Option ℕ) (here : Bool) → fails (suc count) ≡ here → Says fails count lower
      → Says fails (suc count) (or_here lower here (suc count))
  one_more count (Some p) here e s = record {
    from_one = s.from_one;
    within = omega arith;
    fails_there = s.fails_there;
    passes_below = s.passes_below;
  }
  one_more count None true e s = record {
    from_one = omega arith;
    within = omega arith;
    fails_there = e;
    passes_below = λ q one l. s q one (omega arith);
  }
  one_more count None false e s =
      λ q one l. ⊎_elim (λ same. ap fails same ∙ e) (λ lower. s q one (omega arith)) (eq-or-lt_of_le l)

  says : (count : ℕ) → Says fails count (lowest_place fails count)
  unfolding lowest_place
  says zero = λ q one l. absurd (omega arith)
  says (suc count) = one_more count (lowest_place fails count) (fails (suc count)) refl (says count)

  clash : (p : ℕ) → fails p ≡ true → fails p ≡ false → ⊥
  clash p t f = true≢false (sym t ∙ f)

  not_above : {count p q : ℕ} → LowestFailing fails count p → LowestFailing fails count q → q < p → ⊥
  not_above {q} s t l = clash q t.fails_there (s.passes_below q t.from_one l)

  unique : (count : ℕ) (a b : Option ℕ) → Says fails count a → Says fails count b → a ≡ b
  unique count None None s t = refl
  unique count None (Some q) s t = absurd (clash q t.fails_there (s q t.from_one t.within))
  unique count (Some p) None s t = absurd (clash p s.fails_there (t p s.from_one s.within))
  unique count (Some p) (Some q) s t =
      let not_lower : ¬ (q < p) = not_above s t in
      let not-higher : ¬ (p < q) = not_above t s in
      ap Some (omega arith)

  says_so : (count : ℕ) (answer : Option ℕ) → (lowest_place fails count ≡ answer) ↔ Says fails count answer
  says_so count answer = (
    λ e. subst (Says fails count) e (says count),
    λ s. unique count (lowest_place fails count) answer (says count) s,
  )

  pub lowest_is : (count p : ℕ) → (lowest_place fails count ≡ Some p) ↔ LowestFailing fails count p
  lowest_is count p = says_so count (Some p)

  pub lowest_is_nowhere : (count : ℕ) → (lowest_place fails count ≡ None) ↔ FailsNowhere fails count
  lowest_is_nowhere count = says_so count None
