-- The answer of a list of tests: of one, of two parts, and when every test passes. Assumes nothing.
use Rattle.std.specs.Prelude.{Err, Ok}
use Rattle.refusals.specs.Numbers.{Verdict}
use Rattle.std.specs.Prelude.{ℕ, List, [], ◌∷◌, ◌++◌, ◌↔◌, ◌≡◌, refl}
use Rattle.vocabulary.specs.{sym, arith}
use Rattle.refusals.specs.Order.{answer_of}

pub answer_of_one : (t : Verdict) → answer_of (t ∷ []) ≡ t
unfolding answer_of
answer_of_one (Ok tt) = refl
answer_of_one (Err r) = refl

pub answer_of_cons : (t : Verdict) (later : List Verdict) → answer_of (t ∷ later) ≡ answer_of (t ∷ answer_of later ∷ [])
unfolding answer_of
answer_of_cons (Ok tt) later = sym (answer_of_one (answer_of later))
answer_of_cons (Err r) later = refl

pub answer_of_append : (a b : List Verdict) → answer_of (a ++ b) ≡ answer_of (answer_of a ∷ answer_of b ∷ [])
unfolding answer_of
answer_of_append [] b = sym (answer_of_one (answer_of b))
answer_of_append ((Ok tt) ∷ a) b = answer_of_append a b
answer_of_append (Err r ∷ a) b = refl

pub cons_passes : (t : Verdict) (later : List Verdict) → (answer_of (t ∷ later) ≡ Ok tt) ↔ ((t ≡ Ok tt) × (answer_of later ≡ Ok tt))
unfolding answer_of
cons_passes (Ok tt) later = (λ e. (refl, e), λ both. both.1)
cons_passes (Err r) later = (λ e. absurd (let z : ◌≡◌ {A = ℕ} 0 1 = cc in omega arith), λ both. both.0)
