-- Tests over places, as a loop makes them: what was found at one holds over all, and what was found at none. Assumes nothing.
use Rattle.std.specs.Prelude.{ℕ, zero, suc, ◌+◌, ◌≤◌, ◌<◌, Bool, true, false, ◌||◌, ◌≡◌, refl}
use Rattle.vocabulary.specs.{true≢false, sym, ap, ap₂, ◌∙◌, dec_lt, add-one, arith}
use Rattle.refusals.specs.Questions.{any_place}

either_true : (a : Bool) → (a || true) ≡ true
either_true true = refl
either_true false = refl

module _ (test : ℕ → Bool) where
  pub none_found : any_place 0 test ≡ false
  none_found = refl

  -- one place more, where nothing was found
  pub one_more : (i : ℕ) → any_place i test ≡ false → test (suc i) ≡ false → any_place (i + 1) test ≡ false
  one_more i before here = ap (λ (n : ℕ). any_place n test) (add-one i) ∙ ap₂ ◌||◌ before here

  at_last : (count i : ℕ) → Dec (i < count) → i < suc count → (i < count → any_place count test ≡ true) → test (suc i) ≡ true
      → (any_place count test || test (suc count)) ≡ true
  at_last count i (yes below) h before here = ap (λ (b : Bool). b || test (suc count)) (before below)
  at_last count i (no last) h before here =
      let same : i ≡ count = omega (arith, last, h) in
      ap (λ (b : Bool). any_place count test || b) (ap (λ (n : ℕ). test (suc n)) (sym same) ∙ here) ∙ either_true (any_place count test)

  pub found : (count i : ℕ) → i < count → test (suc i) ≡ true → any_place count test ≡ true
  found zero i h here = absurd (omega arith)
  found (suc count) i h here = at_last count i (dec_lt i count) h (λ below. found count i below here) here

  pub nowhere : (i count : ℕ) → any_place i test ≡ false → count ≤ i → i ≤ count → any_place count test ≡ false
  nowhere i count none low high = ap (λ (n : ℕ). any_place n test) (let same : count ≡ i = omega (arith, low, high) in same) ∙ none

  -- what was found nowhere fails at no place
  pub not_found : (count i : ℕ) → i < count → any_place count test ≡ false → test (suc i) ≡ false
  not_found count i h none = go (test (suc i)) refl
    where
      go : (b : Bool) → test (suc i) ≡ b → b ≡ false
      go false e = refl
      go true e = absurd (true≢false (sym (found count i h e) ∙ none))

-- tests that agree at every place
pub any_agrees : (count : ℕ) (test other : ℕ → Bool) → ((i : ℕ) → i < count → test (suc i) ≡ other (suc i)) → any_place count test ≡ any_place count other
any_agrees zero test other same = refl
any_agrees (suc count) test other same = ap₂ ◌||◌ (any_agrees count test other (λ i h. same i (omega arith))) (same count (omega arith))
