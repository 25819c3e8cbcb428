-- Both passes together: of any numbers that are rows applied to misclosures and of what an accepted second pass stores; of the calls, and
-- of the same for C. Assumes nothing.
use Rattle.std.specs.Prelude.{Ok, Some}
use Rattle.std.specs.Prelude.{ℕ, ◌<◌, ◌≡◌, refl, ℤ, pos, neg_ℤ, nat_abs, ◌+ℤ◌, ◌-ℤ◌, ◌*ℤ◌, ◌≤ℤ◌}
use Rattle.vocabulary.specs.{sym, ap, ap₂, subst, ◌∙◌, mul-pos}
use Rattle.whole.specs.Sums.{dot, squares, vector}
use Rattle.whole.proofs.{Order.natural, Ring.ring, Ring.◌≐◌, Ring.◌⊕◌, Ring.◌⊖◌, Ring.◌⊗◌, Ring.⊝◌}
use Rattle.whole.proofs.Sums.{dot_ext, dot_combined, squares_ext}
use Rattle.figures.specs.{declared.Figure.Figure, Numerators.numerator}
use Rattle.figures.specs.Figure.{SineCondition, denominator, angle_count, pole, side, figure_of}
use Rattle.figures.proofs.BothPasses as both
use Rattle.figures.proofs.{Figures.denominator_positive, Theorem.condition_agrees}
use Rattle.pass_rules.specs.Promises.{FirstGiven, FirstLent, FirstPromise}
use Rattle.pass_rules.specs.SecondPass.{SineEntries, signed_in, second_numerator}
use Rattle.pass_rules.proofs.SecondLaws.{divisor_natural, numerators_close, numerators_orthogonal}
use Rattle.demands.specs.BothPasses.{sine_change, ChangeAlike, LeastOfAll, common_denominator, first_plus_second, BothTogether, BothPasses, BothPassesC}
use Rattle.demands.specs.Demand3.{Cancel, squares_over, SineCloses}
use Rattle.demands.proofs.Closing.{Exact, exact_closes}
use Rattle.demands.proofs.Demand3.{one_figure, first_c, second_exact, second_exact_c}
use Rattle.demands.proofs.Demand2 as values

module _ (f : Figure) (e : SineEntries) (misclosures first second : ℕ → ℤ) (S : ℕ)
    (rows : (i : ℕ) → i < angle_count f → first i ≡ numerator f misclosures i)
    (are : (i : ℕ) → i < angle_count f → second i ≡ second_numerator f e i) where
  abbrev N : ℕ
  N = angle_count f

  abbrev p : ℕ
  p = common_denominator f S

  abbrev ours : ℕ → ℤ
  ours = first_plus_second f S first second

  -- they are those of the figures' theorem
  abbrev exact : ℕ → ℤ
  exact = both.together f misclosures (second_numerator f e) (pos S)

  ours_are : (i : ℕ) → i < N → ours i ≡ exact i
  ours_are i h = ap₂ (λ (a b : ℤ). pos S *ℤ a +ℤ pos (denominator f) *ℤ b) (rows i h) (are i h)

  ours_cancel : Cancel f p ours misclosures
  ours_cancel j h =
      condition_agrees f ours exact ours_are j h
      ∙ both.together_cancel f misclosures (second_numerator f e) (pos S) (numerators_close f e) j h

  module _ (q : ℕ) (x : ℕ → ℤ) (cancels : Cancel f q x misclosures) (alike : ChangeAlike f e.differences q x p ours) where
    abbrev excess : ℕ → ℤ
    excess = both.excess f misclosures (second_numerator f e) (pos S) (numerators_close f e) (pos q) x cancels

    -- the sine sum of a condition that both change alike
    unchanged : (sine : SineCondition)
        → pos p *ℤ sine_change f sine e.differences x ≡ pos q *ℤ sine_change f sine e.differences ours
        → dot N (signed_in sine e) excess ≡ pos 0
    unfolding signed_in
    unchanged sine same =
        let d : ℕ → ℤ = signed_in sine e in
        both.excess_unchanged f misclosures (second_numerator f e) (pos S) (numerators_close f e) (pos q) x cancels d
        (same ∙ ap (λ (z : ℤ). pos q *ℤ z) (dot_ext N d ours d exact (λ i h. refl) ours_are))

    apart : dot N (second_numerator f e) excess ≡ pos 0
    apart =
        numerators_orthogonal f e excess
        (both.excess_closes f misclosures (second_numerator f e) (pos S) (numerators_close f e) (pos q) x cancels)
        (unchanged (pole f) alike.pole_alike) (λ two. unchanged (side f) (alike.side_alike two))

    same_squares : squares N ours ≡ squares N exact
    same_squares = squares_ext N ours exact ours_are

    none_below : squares_over f q ours ≤ℤ squares_over f p x
    none_below =
        subst (λ (z : ℤ). (pos q *ℤ pos q *ℤ z) ≤ℤ squares_over f p x) (sym same_squares)
        (both.never_below f misclosures (second_numerator f e) (pos S) (numerators_close f e) (pos q) x cancels apart)

    only_they : squares_over f q ours ≡ squares_over f p x → (i : ℕ) → i < N → pos p *ℤ x i ≡ pos q *ℤ ours i
    only_they reach i h =
        both.only_the_same f misclosures (second_numerator f e) (pos S) (numerators_close f e) (pos q) x cancels apart
        (ap (λ (z : ℤ). pos q *ℤ pos q *ℤ z) (sym same_squares) ∙ reach) i h
        ∙ ap (λ (z : ℤ). pos q *ℤ z) (sym (ours_are i h))

  least_of_all : LeastOfAll f e.differences misclosures p ours
  least_of_all = record {
    cancel = ours_cancel;
    never_below = λ q positive x cancels alike. none_below q x cancels alike;
    only_the_same = λ q positive x cancels alike. only_they q x cancels alike;
  }

  -- a sine sum that the second corrections change by −100·v, over S
  changed : (u : ℕ → ℤ) (v : ℤ) → dot N u second ≡ neg_ℤ (pos 100) *ℤ v *ℤ pos S
      → dot N u ours ≡ pos S *ℤ dot N u first -ℤ pos 100 *ℤ v *ℤ pos p
  changed u v closes =
      dot_combined N (pos S) (pos (denominator f)) u first second
      ∙ ap (λ (z : ℤ). pos S *ℤ dot N u first +ℤ pos (denominator f) *ℤ z) closes
      ∙ ring 5 (λ s a d h v. s ⊗ a ⊕ d ⊗ (⊝ h ⊗ v ⊗ s) ≐ s ⊗ a ⊖ h ⊗ v ⊗ (d ⊗ s)) tt (pos S) (dot N u first) (pos (denominator f)) (pos 100) v

pub both_together : (f : Figure) (e : SineEntries) (misclosures first second : ℕ → ℤ) (w sideW over : ℤ)
    → ((i : ℕ) → i < angle_count f → first i ≡ numerator f misclosures i) → Exact f e second w sideW over
    → BothTogether f e.differences misclosures first second w sideW (nat_abs over)
both_together f e misclosures first second w sideW over rows exact-second =
    let are = exact-second.numerators_are in
    let closes : SineCloses f e.differences second w sideW over = exact_closes exact-second in
    let own : over ≡ pos (nat_abs over) =
    natural over (subst (λ (z : ℤ). pos 0 ≤ℤ z) exact-second.divisor_is (divisor_natural f e)) in
    let some : 0 < nat_abs over = subst (λ (z : ℤ). 0 < nat_abs z) exact-second.divisor_is exact-second.divisor_some in
    record {
      denominator_positive = mul-pos (denominator_positive f) some;
      least = least_of_all f e misclosures first second (nat_abs over) rows are;
      sine = changed f e misclosures first second (nat_abs over) rows are _ w (closes.sine ∙ ap (λ (z : ℤ). neg_ℤ (pos 100) *ℤ w *ℤ z) own);
      side_sine = λ two.
          changed f e misclosures first second (nat_abs over) rows are _ sideW
          (closes.side_sine two ∙ ap (λ (z : ℤ). neg_ℤ (pos 100) *ℤ sideW *ℤ z) own);
    }

-- the rows of a first pass that is accepted
first_rows : (given : FirstGiven) (entry exit : FirstLent) → FirstPromise given entry (Ok tt) exit
    → (f : Figure) → figure_of given.code given.n ≡ Some f
    → (i : ℕ) → i < angle_count f → vector exit.numerators i ≡ numerator f (vector exit.misclosures) i
first_rows given entry exit promise f named =
    let done = values.first_pass given entry exit promise in
    subst (λ (g : Figure). (i : ℕ) → i < angle_count g → vector exit.numerators i ≡ numerator g (vector exit.misclosures) i)
    (one_figure done.named named) done.numerators

pub both_passes : BothPasses
both_passes given entry exit promise given₂ w sideW high low entry₂ exit₂ promise₂ f named named₂ on-corrected =
    both_together f given₂.entries _ _ _ w sideW _ (first_rows given entry exit promise f named)
    (second_exact given₂ w sideW high low entry₂ exit₂ promise₂ f named₂)

pub both_passes_c : BothPassesC
both_passes_c given entry exit promise given₂ entry₂ exit₂ promise₂ f named named₂ on-corrected =
    both_together f given₂.entries _ _ _ _ _ _ (first_rows given entry exit (first_c given entry exit promise) f named)
    (second_exact_c given₂ entry₂ exit₂ promise₂ f named₂)
