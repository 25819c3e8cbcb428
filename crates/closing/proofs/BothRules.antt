-- Our own choice keeps both rules, and number 15 asks exactly whether one of them is broken. Assumes nothing.
use Rattle.std.specs.Prelude.{Err, Ok}
use Rattle.std.specs.Prelude.{ℕ, zero, suc, ◌≤◌, ◌<◌, Bool, true, false, List, ◌↔◌, ◌⊎◌, ◌≡◌, refl, ℤ, pos, negsuc, nat_abs, ◌+ℤ◌, ◌*ℤ◌}
use Rattle.std.specs.Prelude.{length, ◌≤ℤ◌, ◌<ℤ◌}
use Rattle.vocabulary.specs.{zero-le, suc-le-suc, inl, inr, ⊎_elim, sym, ap, subst, ◌∙◌, arith, ≤ℤ_refl, clash_ℤ}
use Rattle.whole.specs.Sums.{vector}
use Rattle.whole.proofs.Lists.{length_listed}
use Rattle.refusals.specs.declared.Refusal.{Refusal}
use Rattle.refusals.specs.{Numbers.numbered, Order.fails_if, Order.verdict_of}
use Rattle.refusals.specs.Questions.{Question, Holds, asked, less_signed, either, some_at, outside_signed}
use Rattle.refusals.proofs.{Decided.decided, Decided.decided_not, Decided.not_less_signed, Nowhere.between}
use Rattle.figures.specs.{declared.Figure.Figure, Figure.denominator, Figure.angle_count, Figure.condition_count, Numerators.condition_sum}
use Rattle.figures.proofs.{Figures.denominator_positive, Theorem.condition_agrees}
use Rattle.pass_rules.specs.FirstPass.{misclosure, first_numerator, misclosures_of, numerators_of}
use Rattle.pass_steps.proofs.StepLaws.{listed_at}
use Rattle.closing.specs.{Choice.choice, Floor.floor_quotient, Floor.ceiling_quotient, Promises.rules_row}
use Rattle.closing.specs.Rules.{BelowOrAbove, BothRules, rest_with, choice_of, tenths_under, tenths_over, rests_left}
use Rattle.closing.proofs.Closes.{rest_zero, choice_low, choice_high}
use Rattle.closing.proofs.FloorLaws.{one_of_both, floor_under, floor_of_whole, ceiling_of_whole}

-- ---- our own choice

module _ (f : Figure) (angles fixed : List ℕ) where
  abbrev w : ℕ → ℤ
  w = misclosure f angles fixed

  at : (i : ℕ) → i < angle_count f → vector (choice_of f angles fixed) i ≡ choice f w i
  at i h = listed_at (angle_count f) (choice f w) i h

  pub choice_keeps_rules : BothRules f angles fixed (vector (choice_of f angles fixed))
  unfolding first_numerator
  choice_keeps_rules = record {
    below_or_above = λ i h.
        subst (λ (x : ℤ). (x ≡ floor_quotient (first_numerator f angles fixed i) (denominator f)) ⊎ (x ≡ ceiling_quotient (first_numerator f angles fixed i) (denominator f)))
        (sym (at i h))
        (one_of_both (denominator f) (denominator_positive f) (first_numerator f angles fixed i) (choice f w i) (choice_low f w i) (choice_high f w i));
    closed = λ j h.
        ap (λ (z : ℤ). w j +ℤ z) (condition_agrees f (vector (choice_of f angles fixed)) (choice f w) at j h) ∙ rest_zero f w j h;
  }

  -- a whole value stays, in every choice that keeps the first rule
  pub whole_stays : (x : ℕ → ℤ) → BelowOrAbove f angles fixed x → (i : ℕ) → i < angle_count f → (q : ℤ)
      → first_numerator f angles fixed i ≡ pos (denominator f) *ℤ q → x i ≡ q
  whole_stays x rule i h q is_whole =
      ⊎_elim
      (λ (e : x i ≡ floor_quotient (first_numerator f angles fixed i) (denominator f)).
      e ∙ ap (λ (z : ℤ). floor_quotient z (denominator f)) is_whole ∙ floor_of_whole (denominator f) (denominator_positive f) q)
      (λ (e : x i ≡ ceiling_quotient (first_numerator f angles fixed i) (denominator f)).
      e ∙ ap (λ (z : ℤ). ceiling_quotient z (denominator f)) is_whole ∙ ceiling_of_whole (denominator f) (denominator_positive f) q)
      (rule i h)

-- ---- number 15

either_way : (b : Bool) → (fails_if b Refusal.ChoiceDoesNotClose ≡ Ok tt) ⊎ (fails_if b Refusal.ChoiceDoesNotClose ≡ Err Refusal.ChoiceDoesNotClose)
either_way true = inr refl
either_way false = inl refl

inside : (least most value : ℤ) → (Holds (outside_signed least most value) → ⊥) → (least ≤ℤ value) × (value ≤ℤ most)
inside least most value none = (
  (not_less_signed value least).0 ((decided_not (less_signed value least)).1 (λ less. none (inl less))),
  (not_less_signed most value).0 ((decided_not (less_signed most value)).1 (λ more. none (inr more))),
)

not_outside : (least most value : ℤ) → least ≤ℤ value → value ≤ℤ most → Holds (outside_signed least most value) → ⊥
not_outside least most value low high held = ⊎_elim (λ (less : value <ℤ least). clash_ℤ less low) (λ (more : most <ℤ value). clash_ℤ more high) held

zero_between : (z : ℤ) → pos 0 ≤ℤ z → z ≤ℤ pos 0 → z ≡ pos 0
zero_between z low high = go z (between 0 z low high)
  where
    go : (y : ℤ) → nat_abs y ≤ 0 → y ≡ pos 0
    go (pos n) h = ap pos (let none : n ≡ 0 = omega (arith, h) in none)
    go (negsuc n) h = absurd (omega (arith, h))

module _ (f : Figure) (angles fixed : List ℕ) (offered : List ℤ) (own : length offered ≡ angle_count f) where
  abbrev num : ℕ → ℤ
  num = first_numerator f angles fixed

  abbrev D : ℕ
  D = denominator f

  abbrev under : List ℤ
  under = tenths_under f (numerators_of f angles fixed)

  abbrev over : List ℤ
  over = tenths_over f (numerators_of f angles fixed)

  abbrev rests : List ℤ
  rests = rests_left f (misclosures_of f angles fixed) offered

  under_at : (i : ℕ) → i < angle_count f → vector under i ≡ floor_quotient (num i) D
  under_at i h =
      listed_at (angle_count f) (λ k. floor_quotient (vector (numerators_of f angles fixed) k) D) i h
      ∙ ap (λ (z : ℤ). floor_quotient z D) (listed_at (angle_count f) num i h)

  over_at : (i : ℕ) → i < angle_count f → vector over i ≡ ceiling_quotient (num i) D
  over_at i h =
      listed_at (angle_count f) (λ k. ceiling_quotient (vector (numerators_of f angles fixed) k) D) i h
      ∙ ap (λ (z : ℤ). ceiling_quotient z D) (listed_at (angle_count f) num i h)

  rest_at : (j : ℕ) → j < condition_count f → vector rests j ≡ rest_with f angles fixed (vector offered) j
  rest_at j h =
      listed_at (condition_count f) (λ k. vector (misclosures_of f angles fixed) k +ℤ condition_sum f (vector offered) k) j h
      ∙ ap (λ (z : ℤ). z +ℤ condition_sum f (vector offered) j) (listed_at (condition_count f) (misclosure f angles fixed) j h)

  abbrev stray_question : ℕ → Question
  stray_question p = outside_signed (numbered under p (pos 0)) (numbered over p (pos 0)) (numbered offered p (pos 0))

  abbrev open_question : ℕ → Question
  open_question p = outside_signed (pos 0) (pos 0) (numbered rests p (pos 0))

  abbrev broken : Question
  broken = either (some_at (length offered) stray_question) (some_at (length rests) open_question)

  rest_many : length rests ≡ condition_count f
  rest_many = length_listed (condition_count f) (λ k. vector (misclosures_of f angles fixed) k +ℤ condition_sum f (vector offered) k)

  rules_if : (Holds broken → ⊥) → BothRules f angles fixed (vector offered)
  rules_if none = record {
    below_or_above = λ i h.
        let kept = inside (vector under i) (vector over i) (vector offered i)
        (λ out. none (inl (suc i, suc-le-suc zero-le, omega (arith, own, h), out))) in
        one_of_both D (denominator_positive f) (num i) (vector offered i)
        (subst (λ (z : ℤ). z ≤ℤ vector offered i) (under_at i h) kept.0) (subst (λ (z : ℤ). vector offered i ≤ℤ z) (over_at i h) kept.1);
    closed = λ j h.
        let kept = inside (pos 0) (pos 0) (vector rests j) (λ out. none (inr (suc j, suc-le-suc zero-le, omega (arith, rest_many, h), out))) in
        sym (rest_at j h) ∙ zero_between (vector rests j) kept.0 kept.1;
  }

  stays_between : (i : ℕ) → (x : ℤ) → (x ≡ floor_quotient (num i) D) ⊎ (x ≡ ceiling_quotient (num i) D)
      → (floor_quotient (num i) D ≤ℤ x) × (x ≤ℤ ceiling_quotient (num i) D)
  stays_between i x either-one =
      ⊎_elim
      (λ (e : x ≡ floor_quotient (num i) D).
      subst (λ (z : ℤ). (floor_quotient (num i) D ≤ℤ z) × (z ≤ℤ ceiling_quotient (num i) D)) (sym e)
      (≤ℤ_refl (floor_quotient (num i) D), floor_under D (denominator_positive f) (num i)))
      (λ (e : x ≡ ceiling_quotient (num i) D).
      subst (λ (z : ℤ). (floor_quotient (num i) D ≤ℤ z) × (z ≤ℤ ceiling_quotient (num i) D)) (sym e)
      (floor_under D (denominator_positive f) (num i), ≤ℤ_refl (ceiling_quotient (num i) D))) either-one

  no_stray : BothRules f angles fixed (vector offered) → (p : ℕ) → 1 ≤ p → p ≤ length offered → Holds (stray_question p) → ⊥
  no_stray rules zero low high out = absurd (omega (arith, low))
  no_stray rules (suc i) low high out =
      let h : i < angle_count f = omega (arith, own, high) in
      let kept = stays_between i (vector offered i) (rules.below_or_above i h) in
      not_outside (vector under i) (vector over i) (vector offered i)
      (subst (λ (z : ℤ). z ≤ℤ vector offered i) (sym (under_at i h)) kept.0)
      (subst (λ (z : ℤ). vector offered i ≤ℤ z) (sym (over_at i h)) kept.1) out

  no_open : BothRules f angles fixed (vector offered) → (p : ℕ) → 1 ≤ p → p ≤ length rests → Holds (open_question p) → ⊥
  no_open rules zero low high out = absurd (omega (arith, low))
  no_open rules (suc j) low high out =
      let h : j < condition_count f = omega (arith, rest_many, high) in
      let none : vector rests j ≡ pos 0 = rest_at j h ∙ rules.closed j h in
      not_outside (pos 0) (pos 0) (vector rests j) (subst (λ (z : ℤ). pos 0 ≤ℤ z) (sym none) (≤ℤ_refl (pos 0)))
      (subst (λ (z : ℤ). z ≤ℤ pos 0) (sym none) (≤ℤ_refl (pos 0))) out

  only_if : BothRules f angles fixed (vector offered) → Holds broken → ⊥
  only_if rules held =
      ⊎_elim (λ some. no_stray rules some.0 some.1 some.2 some.3) (λ some. no_open rules some.0 some.1 some.2 some.3) held

  by_answer : (b : Bool) → asked broken ≡ b
      → ((fails_if b Refusal.ChoiceDoesNotClose ≡ Ok tt) ↔ BothRules f angles fixed (vector offered))
      × ((fails_if b Refusal.ChoiceDoesNotClose ≡ Err Refusal.ChoiceDoesNotClose) ↔ (BothRules f angles fixed (vector offered) → ⊥))
  by_answer true e = (
    (λ (p : Err Refusal.ChoiceDoesNotClose ≡ Ok tt). absurd (let z : ◌≡◌ {A = ℕ} 0 1 = cc in omega arith), λ rules. absurd (only_if rules ((decided broken).0 e))),
    (λ p rules. only_if rules ((decided broken).0 e), λ none. refl),
  )
  by_answer false e = (
    (λ p. rules_if ((decided_not broken).0 e), λ rules. refl),
    (
      λ (p : (Ok tt) ≡ Err Refusal.ChoiceDoesNotClose). absurd (let z : ◌≡◌ {A = ℕ} 0 1 = cc in omega arith),
      λ none. absurd (none (rules_if ((decided_not broken).0 e))),
    ),
  )

  -- it passes exactly if both rules are kept
  pub row_passes_exactly : (verdict_of (rules_row f angles fixed offered) ≡ Ok tt) ↔ BothRules f angles fixed (vector offered)
  row_passes_exactly = (by_answer (asked broken) refl).0

  pub row_fails_exactly : (verdict_of (rules_row f angles fixed offered) ≡ Err Refusal.ChoiceDoesNotClose) ↔ (BothRules f angles fixed (vector offered) → ⊥)
  row_fails_exactly = (by_answer (asked broken) refl).1

  -- there is no third answer
  pub row_either : (verdict_of (rules_row f angles fixed offered) ≡ Ok tt) ⊎ (verdict_of (rules_row f angles fixed offered) ≡ Err Refusal.ChoiceDoesNotClose)
  row_either = either_way (asked broken)
