-- What a step gives where what is lent to it fits, and leaves where it does not. Assumes nothing.
use Rattle.std.specs.Prelude.{Err, Ok}
use Rattle.refusals.specs.Numbers.{Verdict}
use Rattle.std.specs.Prelude.{Bool, cond, List, ◌≡◌, ℕ, eqb, length}
use Rattle.vocabulary.specs.{sym, ap, ap₂, ◌∙◌, eq-eqb, ne_eqb}
use Rattle.refusals.specs.Promise.{stored}
use Rattle.pass_steps.specs.Steps.{fitting, same_length}

module _ {A : Type 0} (given asked lent own : ℕ) (new entry : List A) where
  pub fits : given ≡ asked → lent ≡ own → fitting given asked lent own new entry ≡ new
  fits e g =
      ap (λ (b : Bool). cond b (cond (eqb lent own) new entry) entry) (eq-eqb given asked e) ∙ ap (λ (b : Bool). cond b new entry) (eq-eqb lent own g)

  pub first_unfit : (given ≡ asked → ⊥) → entry ≡ fitting given asked lent own new entry
  first_unfit n = sym (ap (λ (b : Bool). cond b (cond (eqb lent own) new entry) entry) (ne_eqb given asked n))

  pub second_unfit : given ≡ asked → (lent ≡ own → ⊥) → entry ≡ fitting given asked lent own new entry
  second_unfit e n =
      sym (ap (λ (b : Bool). cond b (cond (eqb lent own) new entry) entry) (eq-eqb given asked e) ∙ ap (λ (b : Bool). cond b new entry) (ne_eqb lent own n))

module _ {A : Type 0} (new entry : List A) where
  pub copied : length new ≡ length entry → same_length new entry ≡ new
  copied e = ap (λ (b : Bool). cond b new entry) (eq-eqb (length new) (length entry) e)

  pub not_copied : (length new ≡ length entry → ⊥) → entry ≡ same_length new entry
  not_copied n = sym (ap (λ (b : Bool). cond b new entry) (ne_eqb (length new) (length entry) n))

-- what a pass works, with the rounds beside it: both are as they should be, or both as they were
module _ {W L : Type 0} (joined : W → List ℕ → L) (new entry : W) (rounds held : List ℕ) where
  pub beside : (v : Verdict) {exit : W} {left : List ℕ} → length rounds ≡ length held → exit ≡ stored v new entry
      → left ≡ stored v (same_length rounds held) held → joined exit left ≡ stored v (joined new rounds) (joined entry held)
  beside (Ok tt) same worked kept = ap₂ joined worked (kept ∙ copied rounds held same)
  beside (Err refusal) same worked kept = ap₂ joined worked kept
