-- The second pass for C, in its ends. Assumes nothing.
use Rattle.std.specs.Prelude.{Err}
use Rattle.pass_rules.specs.SecondPass.{SecondAnswer, done_with}
use Rattle.std.specs.Prelude.{Err, None, Ok, Option, Some}
use Rattle.refusals.specs.Numbers.{Verdict}
use Rattle.std.specs.Prelude.{ℕ, ◌<◌, ◌≤◌, Bool, true, false, cond, ◌&&◌, List, [], ◌∷◌, map, ◌≡◌, refl, eqb, ℤ, pos, length, get_or, take}
use Rattle.vocabulary.specs.{sym, ap, ap₂, subst, ◌∙◌, arith, eqb-true, eqb→eq}
use Rattle.refusals.specs.{declared.Refusal.Refusal, Order.answer_of, Order.judged, Promise.stored}
use Rattle.refusals.specs.Numbers.{place_of, Told, refusal_told, verdict_told}
use Rattle.figures.specs.declared.Figure.{Figure}
use Rattle.figures.specs.Figure.{SineCondition, description, side_count, no_sine, figure_of, of_named}
use Rattle.figures.proofs.{Figures.each_figure, Naming.none_named, Naming.one_named}
use Rattle.pass_rules.specs.SecondPass.{misclosure_in, sine_misclosure, side_misclosure, divisor, second_rows, second_pass_rows, second_pass_verdict, second_answer_for, second_pass_answer, second_told}
use Rattle.pass_rules.specs.Promises.{SecondGiven, SecondLent, second_lengths_lent, second_values, second_verdict, SecondPromise}
use Rattle.pass_rules.proofs.Refusals.{second_tells}
use Rattle.controller.specs.Answer.{place_step, answer_number}
use Rattle.controller.specs.Promises.{SumsLent, sums_lent, sine_count, sums_lengths, sums_rows, sine_misclosures_of, divisor_words_of, sums_values, SecondPassPromise}
use Rattle.controller.proofs.{Answers.done_number, Answers.place_small, PlaceBounds.sums_in_table, PlaceBounds.sums_within}
use Rattle.controller.proofs.Lengths.{none_with_two, all_with_two, kept_named}

-- ---- how many sine conditions a figure has

abbrev pub sines_by_sides : (sides : ℕ) → ℕ
sines_by_sides sides = cond (eqb sides 0) 1 2

pub sines_by_sides_lem : (f : Figure) → length (description f).sines ≡ sines_by_sides (side_count f)
sines_by_sides_lem f =
    eqb→eq (length (description f).sines) (sines_by_sides (side_count f))
    (each_figure (λ g. eqb (length (description g).sines) (sines_by_sides (side_count g))) tt f)

one_or_two : (sides : ℕ) → (1 ≤ sines_by_sides sides) × (sines_by_sides sides ≤ 2)
one_or_two sides = go (eqb sides 0)
  where
    go : (b : Bool) → (1 ≤ cond b 1 2) × (cond b 1 2 ≤ 2)
    go true = (omega arith, omega arith)
    go false = (omega arith, omega arith)

-- the one value or the two of a list of so many
taken_two : {A B : Type 0} (g : A → B) (l : List A) (none : A) → 1 ≤ length l → length l ≤ 2
    → take (length l) (g (get_or l 0 none) ∷ g (get_or l 1 none) ∷ []) ≡ map g l
taken_two g [] none some few = absurd (omega arith)
taken_two g (x ∷ []) none some few = refl
taken_two g (x ∷ y ∷ []) none some few = refl
taken_two g (x ∷ y ∷ z ∷ l) none some few = absurd (omega arith)

both_true : (a b : Bool) → (a && b) ≡ true → (a ≡ true) × (b ≡ true)
both_true true true e = (refl, refl)
both_true true false e = (refl, cc)
both_true false b e = (cc, cc)

-- the parts of an answer
abbrev told_w : SecondAnswer → ℤ
told_w (Ok sums) = sums.misclosure
told_w (Err r) = pos 0

abbrev told_side : SecondAnswer → ℤ
told_side (Ok sums) = sums.side_misclosure
told_side (Err r) = pos 0

abbrev told_words : SecondAnswer → List ℕ
told_words (Ok sums) = sums.divisor_high ∷ sums.divisor_low ∷ []
told_words (Err r) = []

module _ (given : SecondGiven) (entry : SumsLent) where
  abbrev code : ℕ
  code = given.code

  abbrev n : ℕ
  n = given.n

  -- what is judged in given lengths
  abbrev rows_in : List ℕ → Verdict
  rows_in lent = judged (second_pass_rows code n given.tolerance given.angles given.rounds given.entries lent)

  -- whether the slices of C's own have their lengths
  abbrev as_many : Bool
  as_many = eqb (length entry.misclosures) (sine_count code n)

  abbrev two_words : Bool
  two_words = eqb (length entry.divisor) 2

  abbrev pub own_lengths : Bool
  own_lengths = as_many && two_words

  module _ (refusal : Refusal) (told_so : verdict_told (judged (sums_rows given entry)) ≡ refusal_told refusal) where
    small : place_of refusal < place_step
    small =
        subst (λ (t : Told). t.place < place_step) told_so
        (place_small (sums_rows given entry) (sums_in_table given entry) (sums_within given entry))

    refused : {answer : ℕ} → answer ≡ answer_number (refusal_told refusal) → SecondPassPromise given entry answer entry
    refused answer = record {
      answered = answer ∙ sym (ap answer_number told_so);
      leaves = sym (kept_named (figure_of code n) (judged (sums_rows given entry)) refusal (λ f. sums_values f given) entry told_so);
    }

  -- what is answered where a length is that of no figure
  abbrev length_refusal : Refusal
  length_refusal = of_named (figure_of code n) Refusal.NoSuchFigure (λ f. Refusal.WrongLength)

  -- ---- a slice of C's own of the wrong length: no lengths are those of no figure

  no_lengths : rows_in [] ≡ Err length_refusal
  unfolding second_pass_rows second_rows answer_of
  no_lengths = go (figure_of code n) refl
    where
      go : (named : Option Figure) → figure_of code n ≡ named → rows_in [] ≡ Err (of_named named Refusal.NoSuchFigure (λ f. Refusal.WrongLength))
      go None e = rw (none_named code n e)
      go (Some f) e = rw (one_named code n e, e)

  module _ (differs : own_lengths ≡ false) where
    wrong_told : verdict_told (judged (sums_rows given entry)) ≡ refusal_told length_refusal
    wrong_told =
        ap (λ (lent : List ℕ). verdict_told (rows_in lent))
        (none_with_two (second_lengths_lent given entry.values) as_many two_words differs)
        ∙ ap verdict_told no_lengths

    pub wrong_sums_small : place_of length_refusal < place_step
    wrong_sums_small = small length_refusal wrong_told

    pub wrong_sums : {answer : ℕ} → answer ≡ answer_number (refusal_told length_refusal) → SecondPassPromise given entry answer entry
    wrong_sums answer = refused length_refusal wrong_told answer

  -- ---- both of the right length, and what the pass promises

  module _ (same : own_lengths ≡ true) {told : SecondAnswer} {left : SecondLent}
      (promise : SecondPromise given entry.values told left) where
    as_lent : sums_lengths given entry ≡ second_lengths_lent given entry.values
    as_lent = all_with_two (second_lengths_lent given entry.values) as_many two_words same

    own : (length entry.misclosures ≡ sine_count code n) × (length entry.divisor ≡ 2)
    own =
        let both = both_true as_many two_words same in
        (eqb-true _ _ both.0, eqb-true _ _ both.1)

    pub divisor_length : length entry.divisor ≡ 2
    divisor_length = own.1

    told_verdict : second_told told ≡ verdict_told (judged (sums_rows given entry))
    unfolding second_pass_verdict
    told_verdict =
        ap second_told promise.answered
        ∙ second_tells code n given.tolerance given.angles given.rounds given.entries (second_lengths_lent given entry.values)
        ∙ sym (ap (λ (lent : List ℕ). verdict_told (rows_in lent)) as_lent)

    refusal_told_lem : (refusal : Refusal) → told ≡ Err refusal → verdict_told (judged (sums_rows given entry)) ≡ refusal_told refusal
    refusal_told_lem refusal e = sym told_verdict ∙ ap second_told e

    pub right_refusal_small : (refusal : Refusal) → told ≡ Err refusal → place_of refusal < place_step
    right_refusal_small refusal e = small refusal (refusal_told_lem refusal e)

    unchanged : (refusal : Refusal) → told ≡ Err refusal → left ≡ entry.values
    unfolding second_pass_verdict
    unchanged refusal e =
        promise.leaves
        ∙ kept_named (figure_of code n) (second_verdict given entry.values) refusal (λ f. second_values f given) entry.values
        (sym (ap (λ (lent : List ℕ). verdict_told (rows_in lent)) as_lent) ∙ refusal_told_lem refusal e)

    pub right_refused : {answer : ℕ} (refusal : Refusal) → told ≡ Err refusal → answer ≡ answer_number (refusal_told refusal)
        → SecondPassPromise given entry answer (sums_lent entry.misclosures entry.divisor left)
    right_refused {answer} refusal e is =
        subst (λ (values : SecondLent). SecondPassPromise given entry answer (sums_lent entry.misclosures entry.divisor values))
        (sym (unchanged refusal e)) (refused refusal (refusal_told_lem refusal e) is)

    -- what an answer of both W and of two words tells
    record Worked (w sideW : ℤ) (high low : ℕ) : Type 0 where
      figure : Figure
      named : figure_of code n ≡ Some figure
      passed : second_verdict given entry.values ≡ Ok tt
      pole_is : w ≡ sine_misclosure figure given.entries
      side_is : sideW ≡ side_misclosure figure given.entries
      words : (high ∷ low ∷ []) ≡ divisor_words_of figure given.entries

    module _ (w sideW : ℤ) (high low : ℕ) (e : told ≡ done_with w sideW high low) where
      worked : Worked w sideW high low
      unfolding second_pass_answer
      worked = go (figure_of code n) refl (sym promise.answered ∙ e)
        where
          by_verdict : (f : Figure) (v : Verdict) → figure_of code n ≡ Some f → second_verdict given entry.values ≡ v
              → second_answer_for f given.entries v ≡ done_with w sideW high low → Worked w sideW high low
          by_verdict f (Ok tt) named v e = record { figure = f; named = named; passed = v; pole_is = sym (ap told_w e); side_is = sym (ap told_side e); words = sym (ap told_words e) }
          by_verdict f (Err r) named v e = record { figure = f; named = named; passed = cc; pole_is = cc; side_is = cc; words = cc }

          go : (named : Option Figure) → figure_of code n ≡ named
              → of_named named (Err Refusal.NoSuchFigure) (λ f. second_answer_for f given.entries (second_verdict given entry.values))
              ≡ done_with w sideW high low
              → Worked w sideW high low
          go None named e = absurd (let z : ◌≡◌ {A = ℕ} 0 1 = cc in omega arith)
          go (Some f) named e = by_verdict f (second_verdict given entry.values) named refl e

      as_sines : length entry.misclosures ≡ length (description worked.figure).sines
      as_sines = own.0 ∙ ap (λ (m : Option Figure). of_named m 0 (λ f. length (description f).sines)) worked.named

      pub room_for_misclosures : (1 ≤ length entry.misclosures) × (length entry.misclosures ≤ 2)
      room_for_misclosures =
          let few = one_or_two (side_count worked.figure) in
          let by_sides = as_sines ∙ sines_by_sides_lem worked.figure in
          (omega (arith, few.0, by_sides), omega (arith, few.1, by_sides))

      each_misclosure : take (length entry.misclosures) (w ∷ sideW ∷ []) ≡ sine_misclosures_of worked.figure given.entries
      each_misclosure =
          let f = worked.figure in
          let few = one_or_two (side_count f) in
          let count = sines_by_sides_lem f in
          ap (λ (k : ℕ). take k (w ∷ sideW ∷ [])) as_sines
          ∙ ap₂ (λ (x y : ℤ). take (length (description f).sines) (x ∷ y ∷ [])) worked.pole_is worked.side_is
          ∙ taken_two (λ (c : SineCondition). misclosure_in f c given.entries) (description f).sines (no_sine f)
          (omega (arith, few.0, count)) (omega (arith, few.1, count))

      pub right_done : {misclosures : List ℤ} {divisor : List ℕ}
          → misclosures ≡ take (length entry.misclosures) (w ∷ sideW ∷ []) → divisor ≡ high ∷ low ∷ []
          → SecondPassPromise given entry 0 (sums_lent misclosures divisor left)
      unfolding second_pass_verdict
      right_done stores divides =
          let is = worked in
          let passed : judged (sums_rows given entry) ≡ Ok tt = ap rows_in as_lent ∙ is.passed in
          let values-left : left ≡ second_values is.figure given =
          promise.leaves
          ∙ ap₂ (λ (m : Option Figure) (v : Verdict). of_named m entry.values (λ f. stored v (second_values f given) entry.values))
          is.named is.passed in
          record {
            answered = sym (ap (λ (v : Verdict). answer_number (verdict_told v)) passed ∙ done_number);
            leaves =
                ap₂ (λ (l : List ℤ) (d : List ℕ). sums_lent l d left) (stores ∙ each_misclosure) (divides ∙ is.words)
                ∙ ap (sums_lent (sine_misclosures_of is.figure given.entries) (divisor_words_of is.figure given.entries)) values-left
                ∙ sym (ap₂ (λ (m : Option Figure) (v : Verdict). of_named m entry (λ f. stored v (sums_values f given) entry)) is.named passed);
          }
