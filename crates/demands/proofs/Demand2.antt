-- Demand 2: each value in each slice, from the promises alone, and both round trips. Assumes nothing.
use Rattle.pass_rules.specs.SecondPass.{SecondAnswer}
use Rattle.std.specs.Prelude.{Err}
use Rattle.pass_rules.specs.SecondPass.{done_with}
use Rattle.sheet_rules.specs.Sheet.{Reading, read_as}
use Rattle.std.specs.Prelude.{Err, None, Ok, Option, Some}
use Rattle.refusals.specs.Numbers.{Verdict}
use Rattle.std.specs.Prelude.{ℕ, suc, ◌*◌, ◌/◌, ◌%◌, ◌^◌, ◌≤◌, ◌<◌, true, false, List, ◌≡◌, refl, ℤ, pos, negsuc, nat_abs, ◌+ℤ◌, length}
use Rattle.std.specs.Prelude.{get_or, ◌≤ℤ◌}
use Rattle.vocabulary.specs.{sym, ap, ap₂, subst, ◌∙◌, arith}
use Rattle.whole.specs.{Lists.listed, Quotient.rounded_quotient, Sums.vector}
use Rattle.whole.proofs.Lists.{length_listed, get_or_listed}
use Rattle.wide.specs.Wide.{radix}
use Rattle.wide_words.specs.Words.{joined, high_word, low_word}
use Rattle.wide_words.proofs.Joining.{joined_words}
use Rattle.refusals.specs.{declared.Refusal.Refusal, Order.judged, Promise.stored, Ranges.least_angle}
use Rattle.figures.specs.declared.Figure.{Figure}
use Rattle.figures.specs.Figure.{description, denominator, angle_count, condition_count, members_of, has_side, figure_of, of_named}
use Rattle.figures.specs.Numerators.{reduced_coefficient}
use Rattle.sheet_layout.specs.Kinds.{number_of_kind}
use Rattle.sheet_rules.specs.{Sheet.Values, Sheet.values_read}
use Rattle.sheet_rules.specs.Judging.{reading_of, after_reading, writing_of, written_of}
use Rattle.sheet_rules.specs.Promises.{read_answer, read_left}
use Rattle.sheet_rules.specs.Lent.{slices_of, lengths_lent}
use Rattle.sheet_rules.proofs.{Accepted.accepted as accepted-sheet, ReadThenWritten.read_then_accepted}
use Rattle.sheet_rules.proofs.WrittenThenRead.{written_then_read as sheet-read-back}
use Rattle.pass_rules.specs.FirstPass.{misclosure, first_numerator, first_rounded, corrected, first_rest, first_rows, first_pass_rows, first_pass_verdict}
use Rattle.pass_rules.specs.SecondPass.{SineEntries, signed_in, reduced_in, misclosure_in, second_reduced, side_reduced, side_reduced_count, sine_misclosure, side_misclosure, divisor, second_numerator, second_rounded, second_adjusted, second_rest, second_rows, second_pass_rows, second_pass_verdict, second_answer_for, second_pass_answer}
use Rattle.pass_rules.specs.Promises.{FirstGiven, first_lengths_lent, first_values, SecondGiven, SecondLent, second_lengths_lent, second_verdict, second_answer, second_values}
use Rattle.figures.proofs.{Figures.denominator_positive, Theorem.condition_agrees, Theorem.numerator_agrees, Theorem.numerators_cancel}
use Rattle.pass_rules.proofs.FirstAccepted as First
use Rattle.pass_rules.proofs.{PassRows.of_figure, PassRows.one_judged, Rests.rest_small, SecondAccepted.Accepted, SecondAccepted.accepted}
use Rattle.pass_rules.proofs.{SecondLaws.divisor_natural, SecondLaws.rest_half, SineSums.pole_misclosure, SineSums.no_misclosure}
use Rattle.demands.specs.Demand2.{FirstDone, FirstPass, OneSine, TwoSines, SecondDone, SecondPass, values_in, ReadThenWritten, WrittenThenRead}
use Rattle.demands.proofs.WorkedValues.{second_numerators, joined_numerators, one_squares, one_numerators, side_reduced_at, two_determinant, two_numerators}

-- a slice of values by a rule has them by the index
slice_at : (n : ℕ) (g : ℕ → ℤ) (i : ℕ) → i < n → vector (listed n g) i ≡ g i
slice_at n g i h = get_or_listed n g i (pos 0) h

-- an angle within range is its own magnitude
own_magnitude : (z : ℤ) → pos least_angle ≤ℤ z → pos (nat_abs z) ≡ z
own_magnitude (pos n) low = refl
own_magnitude (negsuc n) low = absurd low.le

-- ---- the first pass

module _ (f : Figure) (given : FirstGiven) (lent : List ℕ) (named : figure_of given.code given.n ≡ Some f)
    (passed : judged (first_rows f given.limit given.angles given.rounds given.fixed lent) ≡ Ok tt) where
  abbrev N : ℕ
  N = angle_count f

  abbrev M : ℕ
  M = condition_count f

  abbrev a : List ℕ
  a = given.angles

  abbrev x : List ℕ
  x = given.fixed

  corrected_own : (i : ℕ) → i < N → pos (nat_abs (corrected f a x i)) ≡ corrected f a x i
  corrected_own i h =
      own_magnitude (corrected f a x i)
      ((First.accepted f given.limit a given.rounds x lent passed).result_within i h).0

  pub first_values_done : FirstDone given (first_values f given)
  unfolding misclosure first_numerator first_rounded corrected first_rest
  first_values_done = record {
    figure = f;
    named = named;
    condition_many = (length_listed M (misclosure f a x), length_listed M (first_rest f a x));
    angle_many = (
      length_listed N (first_numerator f a x),
      length_listed N (first_rounded f a x),
      length_listed N (λ i. nat_abs (corrected f a x i)),
    );
    misclosures = slice_at M (misclosure f a x);
    numerators = λ i h.
        slice_at N (first_numerator f a x) i h
        ∙ numerator_agrees f (misclosure f a x) (vector (first_values f given).misclosures)
        (λ j b. sym (slice_at M (misclosure f a x) j b)) i;
    rounded = λ i h.
        slice_at N (first_rounded f a x) i h
        ∙ ap (λ (z : ℤ). rounded_quotient z (denominator f)) (sym (slice_at N (first_numerator f a x) i h));
    corrected = λ i h.
        ap pos (get_or_listed N (λ k. nat_abs (corrected f a x k)) i 0 h)
        ∙ corrected_own i h
        ∙ ap (λ (z : ℤ). pos (get_or a i 0) +ℤ z) (sym (slice_at N (first_rounded f a x) i h));
    rounds_unchanged = refl;
    rests = λ j h.
        slice_at M (first_rest f a x) j h
        ∙ ap₂ ◌+ℤ◌ (sym (slice_at M (misclosure f a x) j h))
        (condition_agrees f (first_rounded f a x) (vector (first_values f given).rounded)
        (λ i b. sym (slice_at N (first_rounded f a x) i b)) j h);
    rests_small = λ j h.
        subst (λ (z : ℤ). 2 * nat_abs z ≤ length (members_of f (suc j))) (sym (slice_at M (first_rest f a x) j h))
        (rest_small f (first_numerator f a x) (denominator f) j (misclosure f a x j) (denominator_positive f)
        (numerators_cancel f (misclosure f a x) j h));
  }

pub first_pass : FirstPass
unfolding first_pass_verdict first_pass_rows
first_pass given entry exit promise =
    let accepted = of_figure given.code given.n
    (λ f. first_rows f given.limit given.angles given.rounds given.fixed (first_lengths_lent given entry)) (sym promise.answered) in
    let left : exit ≡ first_values accepted.figure given =
    promise.leaves
    ∙ ap₂ (λ (m : Option Figure) (v : Verdict). of_named m entry (λ f. stored v (first_values f given) entry)) accepted.named
    (sym promise.answered) in
    subst (FirstDone given) (sym left)
    (first_values_done accepted.figure given (first_lengths_lent given entry) accepted.named accepted.passed)

-- ---- the second pass

module _ (f : Figure) (given : SecondGiven) (lent : List ℕ) (named : figure_of given.code given.n ≡ Some f)
    (passed : judged (second_rows f given.tolerance given.angles given.rounds given.entries lent) ≡ Ok tt) where
  abbrev N₂ : ℕ
  N₂ = angle_count f

  abbrev M₂ : ℕ
  M₂ = condition_count f

  abbrev e : SineEntries
  e = given.entries

  abbrev left : SecondLent
  left = second_values f given

  ok : Accepted f given.tolerance given.angles given.rounds e lent
  ok = accepted f given.tolerance given.angles given.rounds e lent passed

  one_done : has_side f ≡ false → OneSine f (sine_misclosure f e) (side_misclosure f e) (divisor f e) left
  one_done one = record {
    sum_of_squares_is = one_squares f e one;
    no_side = no_misclosure f e one;
    numerators = λ i h. joined_numerators f e i ∙ one_numerators f e one i h;
  }

  two_done : has_side f ≡ true → TwoSines f given (sine_misclosure f e) (side_misclosure f e) (divisor f e) left
  unfolding signed_in reduced_in reduced_coefficient misclosure_in
  two_done both = record {
    side_reduced_is = side_reduced_at f e both;
    side_misclosure_is = refl;
    determinant = two_determinant f e both;
    numerators = λ i h. joined_numerators f e i ∙ two_numerators f e both i h;
  }

  pub second_values_done : SecondDone given (sine_misclosure f e) (side_misclosure f e) (divisor f e) left
  unfolding signed_in reduced_in reduced_coefficient second_rounded second_adjusted second_rest
  second_values_done = record {
    figure = f;
    named = named;
    angle_many = (
      length_listed N₂ (second_reduced f e),
      length_listed N₂ (λ i. high_word (second_numerator f e i)),
      length_listed N₂ (λ i. low_word (second_numerator f e i)),
      length_listed N₂ (second_rounded f e),
      length_listed N₂ (λ i. nat_abs (second_adjusted f given.angles e i)),
    );
    side_many = length_listed (side_reduced_count f) (side_reduced f e);
    condition_many = length_listed M₂ (second_rest f e);
    reduced = slice_at N₂ (second_reduced f e);
    sine_misclosure_is = pole_misclosure f e;
    one_sine = one_done;
    two_sines = two_done;
    rounded = λ i h.
        slice_at N₂ (second_rounded f e) i h
        ∙ ap (λ (z : ℤ). rounded_quotient z (nat_abs (divisor f e))) (sym (joined_numerators f e i ∙ second_numerators f e i h));
    adjusted = λ i h.
        ap pos (get_or_listed N₂ (λ k. nat_abs (second_adjusted f given.angles e k)) i 0 h)
        ∙ own_magnitude (second_adjusted f given.angles e i) (ok.result_within i h).0
        ∙ ap (λ (z : ℤ). pos (get_or given.angles i 0) +ℤ z) (sym (slice_at N₂ (second_rounded f e) i h));
    rounds_unchanged = refl;
    rests = λ j h.
        slice_at M₂ (second_rest f e) j h
        ∙ condition_agrees f (second_rounded f e) (vector left.rounded) (λ i b. sym (slice_at N₂ (second_rounded f e) i b)) j h;
    rests_small = λ j h.
        subst (λ (z : ℤ). 2 * nat_abs z ≤ length (members_of f (suc j))) (sym (slice_at M₂ (second_rest f e) j h))
        (rest_half f e j h ok.divisor_positive);
  }

-- a number from 0 up, from its two words
pub natural_joined : (z : ℤ) → pos 0 ≤ℤ z → joined (pos (nat_abs z / 2 ^ 64)) (nat_abs z % 2 ^ 64) ≡ z
unfolding high_word low_word radix
natural_joined (pos n) low = joined_words (pos n)
natural_joined (negsuc n) low = absurd low.le

-- what an answer of both misclosures and the words of S or the determinant tells
pub record Worked (given : SecondGiven) (entry : SecondLent) (w sideW divisor-told : ℤ) : Type 0 where
  pub figure : Figure
  pub named : figure_of given.code given.n ≡ Some figure
  pub passed : second_verdict given entry ≡ Ok tt
  pub w_is : sine_misclosure figure given.entries ≡ w
  pub side_w_is : side_misclosure figure given.entries ≡ sideW
  pub divisor_is : divisor figure given.entries ≡ divisor-told

-- the parts of an answer
abbrev told_w : SecondAnswer → ℤ
told_w (Ok sums) = sums.misclosure
told_w (Err r) = pos 0

abbrev told_side : SecondAnswer → ℤ
told_side (Ok sums) = sums.side_misclosure
told_side (Err r) = pos 0

abbrev told_high : SecondAnswer → ℕ
told_high (Ok sums) = sums.divisor_high
told_high (Err r) = 0

abbrev told_low : SecondAnswer → ℕ
told_low (Ok sums) = sums.divisor_low
told_low (Err r) = 0

pub worked : (given : SecondGiven) (entry : SecondLent) (w sideW : ℤ) (high low : ℕ) → second_answer given entry ≡ done_with w sideW high low
    → Worked given entry w sideW (joined (pos high) low)
unfolding second_pass_answer
worked given entry w sideW high low e = go (figure_of given.code given.n) refl e
  where
    by_verdict : (f : Figure) (v : Verdict) → figure_of given.code given.n ≡ Some f → second_verdict given entry ≡ v
        → second_answer_for f given.entries v ≡ done_with w sideW high low → Worked given entry w sideW (joined (pos high) low)
    by_verdict f (Ok tt) named v e =
        let told : ℤ = divisor f given.entries in
        let high_is : nat_abs told / 2 ^ 64 ≡ high = ap told_high e in
        let low-is : nat_abs told % 2 ^ 64 ≡ low = ap told_low e in
        record {
          figure = f;
          named = named;
          passed = v;
          w_is = ap told_w e;
          side_w_is = ap told_side e;
          divisor_is = sym (natural_joined told (divisor_natural f given.entries)) ∙ ap₂ (λ (h l : ℕ). joined (pos h) l) high_is low-is;
        }
    by_verdict f (Err r) named v e = absurd (let z : ◌≡◌ {A = ℕ} 0 1 = cc in omega arith)

    go : (m : Option Figure) → figure_of given.code given.n ≡ m
        → of_named m (Err Refusal.NoSuchFigure) (λ f. second_answer_for f given.entries (second_verdict given entry))
        ≡ done_with w sideW high low
        → Worked given entry w sideW (joined (pos high) low)
    go None named e = absurd (let z : ◌≡◌ {A = ℕ} 0 1 = cc in omega arith)
    go (Some f) named e = by_verdict f (second_verdict given entry) named refl e

told_so : {given : SecondGiven} {w w' sideW sideW' over over' : ℤ} {lent lent' : SecondLent}
    → w ≡ w' → sideW ≡ sideW' → over ≡ over' → lent ≡ lent'
    → SecondDone given w sideW over lent → SecondDone given w' sideW' over' lent'
told_so e e' e'' e''' done = rw (← e, ← e', ← e'', ← e''') done

pub second_pass : SecondPass
unfolding second_pass_verdict second_pass_rows
second_pass given w sideW high low entry exit promise =
    let is = worked given entry w sideW high low (sym promise.answered) in
    let f : Figure = is.figure in
    let rows = one_judged given.code given.n
    (λ g. second_rows g given.tolerance given.angles given.rounds given.entries (second_lengths_lent given entry)) is.named in
    let left_is : exit ≡ second_values f given =
    promise.leaves
    ∙ ap₂ (λ (m : Option Figure) (v : Verdict). of_named m entry (λ g. stored v (second_values g given) entry)) is.named is.passed in
    told_so is.w_is is.side_w_is is.divisor_is (sym left_is)
    (second_values_done f given (second_lengths_lent given entry) is.named (sym rows ∙ is.passed))

-- ---- packed sheets

pub read_then_written : ReadThenWritten
read_then_written sheet bytes kind f l lent values reads room written answer same writes =
    let read : reading_of sheet (lengths_lent lent) ≡ read_as kind f l = sym reads.answered in
    let again = read_then_accepted sheet (lengths_lent lent) kind f l bytes read in
    let v : Values = values_read kind f sheet in
    let left : values ≡ slices_of v =
    reads.leaves ∙ ap (λ (reading : Reading). after_reading reading (λ k g. slices_of (values_read k g sheet)) lent) read in
    let given : values_in l values ≡ v =
    ap₂ values_in (sym (accepted-sheet sheet (lengths_lent lent) kind f l read).as_packed) left in
    let number : ℕ = number_of_kind kind in
    let code : ℕ = (description f).code in
    let n : ℕ = (description f).n in (
      writes.answered ∙ ap₂ (writing_of number code n) given same ∙ again.accepts,
      writes.leaves ∙ ap (λ (w : Values). written_of number code n w room) given ∙ again.writes room same,
    )

pub written_then_read : WrittenThenRead
written_then_read kind code n v room sheet writes lent values answer same reads =
    let back = sheet-read-back kind code n v room (sym writes.answered) lent same in
    record {
      kind_read = back.kind_read;
      figure_read = back.figure_read;
      named = back.named;
      answers = reads.answered ∙ ap (λ (s : List ℕ). read_answer s lent) writes.leaves ∙ back.answers;
      leaves = reads.leaves ∙ ap (λ (s : List ℕ). read_left s lent) writes.leaves ∙ back.leaves;
    }
