-- A slice that C lends beside those of the operation, of the right length and of the wrong one; and what a refusal leaves. Assumes nothing.
use Rattle.std.specs.Prelude.{Err, Ok}
use Rattle.sheet_layout.specs.Head.{Look}
use Rattle.std.specs.Prelude.{Err, None, Ok, Option, Some}
use Rattle.refusals.specs.Numbers.{Verdict}
use Rattle.std.specs.Prelude.{ℕ, Bool, true, false, cond, ◌&&◌, List, [], ◌∷◌, ◌≡◌, refl}
use Rattle.vocabulary.specs.{sym, ap, eq-eqb, ne_eqb}
use Rattle.refusals.specs.{declared.Refusal.Refusal, Numbers.Told, Numbers.refusal_told, Numbers.verdict_told}
use Rattle.refusals.specs.{Promise.stored, Table.lengths_row}
use Rattle.refusals.specs.Order.{Row, answer_of, judged}
use Rattle.refusals.proofs.Rows.{no_zero}
use Rattle.figures.specs.declared.Figure.{Figure}
use Rattle.figures.specs.Figure.{of_named}
use Rattle.sheet_layout.specs.{declared.Kind.Kind, Head.of_head}
use Rattle.controller.specs.Answer.{lengths_with}

module _ (room own : ℕ) where
  pub wrong_length : (room ≡ own → ⊥) → (later : List Row) → judged (lengths_row (room ∷ []) (own ∷ []) ∷ later) ≡ Err Refusal.WrongLength
  unfolding answer_of
  wrong_length differs later = rw (ne_eqb room own differs)

  pub right_length : room ≡ own → (later : List Row) → judged (lengths_row (room ∷ []) (own ∷ []) ∷ later) ≡ judged later
  unfolding answer_of
  right_length same later = rw (eq-eqb room own same)

  pub none_with : (room ≡ own → ⊥) → (lent : List ℕ) → lengths_with room own lent ≡ []
  none_with differs lent = rw (ne_eqb room own differs)

  pub all_with : room ≡ own → (lent : List ℕ) → lengths_with room own lent ≡ lent
  all_with same lent = rw (eq-eqb room own same)

-- two such slices
module _ (lent : List ℕ) where
  pub none_with_two : (a b : Bool) → (a && b) ≡ false → cond a (cond b lent []) [] ≡ []
  none_with_two true true e = cc
  none_with_two true false e = refl
  none_with_two false b e = refl

  pub all_with_two : (a b : Bool) → (a && b) ≡ true → cond a (cond b lent []) [] ≡ lent
  all_with_two true true e = refl
  all_with_two true false e = cc
  all_with_two false b e = cc

-- what tells a refusal stores nothing, whatever is named
pub kept_told : {L : Type 0} (v : Verdict) (refusal : Refusal) (new old : L) → verdict_told v ≡ refusal_told refusal → stored v new old ≡ old
kept_told (Ok tt) refusal new old e = absurd (no_zero refusal (sym (ap (λ (t : Told). t.number) e)))
kept_told (Err q) refusal new old e = refl

pub kept_head : {L : Type 0} (head : Look) (v : Verdict) (refusal : Refusal) (new : Kind → Figure → L) (old : L)
    → verdict_told v ≡ refusal_told refusal
    → of_head head old (λ kind f. stored v (new kind f) old) ≡ old
kept_head (Ok head) v refusal new old e = kept_told v refusal (new head.kind head.figure) old e
kept_head (Err other) v refusal new old e = refl

pub kept_named : {L : Type 0} (named : Option Figure) (v : Verdict) (refusal : Refusal) (new : Figure → L) (old : L)
    → verdict_told v ≡ refusal_told refusal
    → of_named named old (λ f. stored v (new f) old) ≡ old
kept_named None v refusal new old e = refl
kept_named (Some f) v refusal new old e = kept_told v refusal (new f) old e
