-- The laws of a commutative ring for ℤ that the kit's `lib.IntN` leaves out: the product distributes over the sum, is associative, and
-- carries a minus sign. Each goes by one induction, by steps of one up and down from zero. Assumes nothing.
use Rattle.std.specs.Prelude.{◌≡◌, ℕ, zero, suc, ℤ, pos, negsuc, neg_ℤ, ◌+ℤ◌, ◌-ℤ◌, ◌*ℤ◌}
use Rattle.vocabulary.specs.{sym, ap, ◌∙◌, one, suc_ℤ, pred_ℤ, +ℤ_assoc, +ℤ_comm, +ℤ_idl, suc_ℤ-+ℤ, pred_ℤ-+ℤ, neg_ℤ-+ℤ, neg_ℤ-neg_ℤ}
use Rattle.vocabulary.specs.{neg_ℤ-suc_ℤ, neg_ℤ-pred_ℤ, *ℤ_comm, *ℤ-one, zero-*ℤ, suc_ℤ-*ℤ, pred_ℤ-*ℤ}

module _ (P : ℤ → Type 0) (start : P (pos zero)) (up : (k : ℤ) → P k → P (suc_ℤ k)) (down : (k : ℤ) → P k → P (pred_ℤ k)) where
  from_zero_up : (n : ℕ) → P (pos n)
  from_zero_up zero = start
  from_zero_up (suc n) = up (pos n) (from_zero_up n)

  from_zero_down : (n : ℕ) → P (negsuc n)
  from_zero_down zero = down (pos zero) start
  from_zero_down (suc n) = down (negsuc n) (from_zero_down n)

  pub by_steps : (k : ℤ) → P k
  by_steps (pos n) = from_zero_up n
  by_steps (negsuc n) = from_zero_down n

pub *ℤ-unit : (a : ℤ) → a *ℤ pos 1 ≡ a
unfolding one
*ℤ-unit a = *ℤ-one a

pub unit-*ℤ : (a : ℤ) → pos 1 *ℤ a ≡ a
unit-*ℤ a = *ℤ_comm (pos 1) a ∙ *ℤ-unit a

pub +ℤ-left-comm : (a b c : ℤ) → a +ℤ (b +ℤ c) ≡ b +ℤ (a +ℤ c)
+ℤ-left-comm a b c = sym (+ℤ_assoc a b c) ∙ ap (λ (t : ℤ). t +ℤ c) (+ℤ_comm a b) ∙ +ℤ_assoc b a c

pub +ℤ-right-comm : (a b c : ℤ) → a +ℤ b +ℤ c ≡ a +ℤ c +ℤ b
+ℤ-right-comm a b c = +ℤ_assoc a b c ∙ ap (λ (t : ℤ). a +ℤ t) (+ℤ_comm b c) ∙ sym (+ℤ_assoc a c b)

pub *ℤ-distribʳ : (a b c : ℤ) → (a +ℤ b) *ℤ c ≡ a *ℤ c +ℤ b *ℤ c
*ℤ-distribʳ a b c =
    by_steps (λ x. (x +ℤ b) *ℤ c ≡ x *ℤ c +ℤ b *ℤ c)
    (ap (λ (t : ℤ). t *ℤ c) (+ℤ_idl b) ∙ sym (+ℤ_idl (b *ℤ c)) ∙ ap (λ (t : ℤ). t +ℤ b *ℤ c) (sym (zero-*ℤ c)))
    (λ x h. ap (λ (t : ℤ). t *ℤ c) (suc_ℤ-+ℤ x b) ∙ suc_ℤ-*ℤ (x +ℤ b) c ∙ ap (λ (t : ℤ). t +ℤ c) h ∙ +ℤ-right-comm (x *ℤ c) (b *ℤ c) c
    ∙ ap (λ (t : ℤ). t +ℤ b *ℤ c) (sym (suc_ℤ-*ℤ x c)))
    (λ x h. ap (λ (t : ℤ). t *ℤ c) (pred_ℤ-+ℤ x b) ∙ pred_ℤ-*ℤ (x +ℤ b) c ∙ ap (λ (t : ℤ). t -ℤ c) h ∙ +ℤ-right-comm (x *ℤ c) (b *ℤ c) (neg_ℤ c)
    ∙ ap (λ (t : ℤ). t +ℤ b *ℤ c) (sym (pred_ℤ-*ℤ x c)))
    a

pub *ℤ-distribˡ : (a b c : ℤ) → a *ℤ (b +ℤ c) ≡ a *ℤ b +ℤ a *ℤ c
*ℤ-distribˡ a b c = *ℤ_comm a (b +ℤ c) ∙ *ℤ-distribʳ b c a ∙ ap (λ (t : ℤ). t +ℤ c *ℤ a) (*ℤ_comm b a) ∙ ap (λ (t : ℤ). a *ℤ b +ℤ t) (*ℤ_comm c a)

pub negℤ-*ℤ : (a b : ℤ) → neg_ℤ a *ℤ b ≡ neg_ℤ (a *ℤ b)
negℤ-*ℤ a b =
    by_steps (λ x. neg_ℤ x *ℤ b ≡ neg_ℤ (x *ℤ b))
    (zero-*ℤ b ∙ ap neg_ℤ (sym (zero-*ℤ b)))
    (λ x h. ap (λ (t : ℤ). t *ℤ b) (neg_ℤ-suc_ℤ x) ∙ pred_ℤ-*ℤ (neg_ℤ x) b ∙ ap (λ (t : ℤ). t -ℤ b) h ∙ sym (neg_ℤ-+ℤ (x *ℤ b) b) ∙ ap neg_ℤ (sym (suc_ℤ-*ℤ x b)))
    (λ x h. ap (λ (t : ℤ). t *ℤ b) (neg_ℤ-pred_ℤ x) ∙ suc_ℤ-*ℤ (neg_ℤ x) b ∙ ap (λ (t : ℤ). t +ℤ b) h
    ∙ ap (λ (t : ℤ). neg_ℤ (x *ℤ b) +ℤ t) (sym (neg_ℤ-neg_ℤ b)) ∙ sym (neg_ℤ-+ℤ (x *ℤ b) (neg_ℤ b)) ∙ ap neg_ℤ (sym (pred_ℤ-*ℤ x b)))
    a

pub *ℤ-assoc : (a b c : ℤ) → (a *ℤ b) *ℤ c ≡ a *ℤ (b *ℤ c)
*ℤ-assoc a b c =
    by_steps (λ x. (x *ℤ b) *ℤ c ≡ x *ℤ (b *ℤ c))
    (ap (λ (t : ℤ). t *ℤ c) (zero-*ℤ b) ∙ zero-*ℤ c ∙ sym (zero-*ℤ (b *ℤ c)))
    (λ x h. ap (λ (t : ℤ). t *ℤ c) (suc_ℤ-*ℤ x b) ∙ *ℤ-distribʳ (x *ℤ b) b c ∙ ap (λ (t : ℤ). t +ℤ b *ℤ c) h ∙ sym (suc_ℤ-*ℤ x (b *ℤ c)))
    (λ x h. ap (λ (t : ℤ). t *ℤ c) (pred_ℤ-*ℤ x b) ∙ *ℤ-distribʳ (x *ℤ b) (neg_ℤ b) c ∙ ap (λ (t : ℤ). (x *ℤ b) *ℤ c +ℤ t) (negℤ-*ℤ b c)
    ∙ ap (λ (t : ℤ). t -ℤ b *ℤ c) h ∙ sym (pred_ℤ-*ℤ x (b *ℤ c)))
    a

pub *ℤ-left-comm : (a b c : ℤ) → a *ℤ (b *ℤ c) ≡ b *ℤ (a *ℤ c)
*ℤ-left-comm a b c = sym (*ℤ-assoc a b c) ∙ ap (λ (t : ℤ). t *ℤ c) (*ℤ_comm a b) ∙ *ℤ-assoc b a c
