-- Where the angle ends and where it starts are small, so that each step keeps its width.
use Rattle.std.specs.Prelude.{◌≡◌, ℕ, ◌*◌, ◌^◌, ◌≤◌, ◌<◌, ℤ, nat_abs, ◌+ℤ◌, ◌-ℤ◌}
use Rattle.std.proofs.Common.{arith, rules, sym, ap, ap₂, ◌∙◌, FitsSigned, w32, w64, to_z, of_z, to_z-of_z}
use Rattle.whole.specs.Sums.{vector}
use Rattle.whole.proofs.Magnitudes.{nat_abs_add, nat_abs_sub, magnitude_fits}
use Rattle.figures.specs.{declared.Figure.Figure, Figure.denominator}
use Rattle.figures.proofs.Figures.{angle_bound, denominator_positive}
use Rattle.closing.specs.{Choice.start_of, Choice.end_of, Choice.chosen, Floor.floor_quotient, Premises.most_numerator}
use Rattle.closing.proofs.{FloorLaws.floor_small, Starts.end_is, Starts.start_small}
use Rattle.closing.proofs.choice.choice_at.Goals as goal

module _ (f : Figure) (x : ℕ → ℤ) (i : ℕ) (small : (k : ℕ) → nat_abs (x k) ≤ most_numerator) where
  start_within : nat_abs (start_of f x i) ≤ 24 * most_numerator
  start_within = omega (arith, start_small f x most_numerator small i, angle_bound f)

  end_within : nat_abs (end_of f x i) ≤ 25 * most_numerator
  end_within = rw (end_is f x i) (omega (arith, nat_abs_add (x i) (start_of f x i), small i, start_within))

  chosen_small : nat_abs (chosen f x i) < 2 ^ 31
  unfolding chosen
  chosen_small =
      omega (
        arith,
        nat_abs_sub (floor_quotient (end_of f x i) (denominator f)) (floor_quotient (start_of f x i) (denominator f)),
        floor_small (denominator f) (denominator_positive f) (end_of f x i),
        floor_small (denominator f) (denominator_positive f) (start_of f x i),
        end_within,
        start_within,
      )

  end_fits : FitsSigned w64 (end_of f x i)
  end_fits = magnitude_fits w64 _ (omega (arith, end_within))

  wide : FitsSigned w64 (chosen f x i)
  wide = magnitude_fits w64 _ (omega (arith, chosen_small))

  narrow : FitsSigned w32 (chosen f x i)
  narrow = magnitude_fits w32 _ chosen_small

  -- the sums of the code, as the machine reads them
  ended : {a s : ℤ} → FitsSigned w64 a → FitsSigned w64 s → a ≡ x i → s ≡ start_of f x i → to_z w64 (of_z w64 a) +ℤ to_z w64 (of_z w64 s) ≡ end_of f x i
  ended p q e g = ap₂ ◌+ℤ◌ (to_z-of_z p ∙ e) (to_z-of_z q ∙ g) ∙ sym (end_is f x i)

  apart : {to from : ℤ} {d : ℕ} → FitsSigned w64 to → FitsSigned w64 from → to ≡ floor_quotient (end_of f x i) d → from ≡ floor_quotient (start_of f x i) d
      → d ≡ denominator f → to_z w64 (of_z w64 to) -ℤ to_z w64 (of_z w64 from) ≡ chosen f x i
  unfolding chosen
  apart p q e g own =
      ap₂ ◌-ℤ◌ (to_z-of_z p ∙ e) (to_z-of_z q ∙ g) ∙ ap (λ (d : ℕ). floor_quotient (end_of f x i) d -ℤ floor_quotient (start_of f x i) d) own

pub overflow_add-end : goal.overflow_add-end
overflow_add-end c =
    let f = c.args.figure in
    let x = vector c.args.numerators.now in
    let i = c.args.i in
    let fits : FitsSigned w32 (x i) = search rules in
    let value = simp to_z-of_z at c.from.ensures in
    let sum = ended f x i c.requires.within (search rules) (search rules) value c.start_of-start.ensures in
    rw sum (end_fits f x i c.requires.within)

pub overflow_sub-result : goal.overflow_sub-result
overflow_sub-result c =
    let f = c.args.figure in
    let x = vector c.args.numerators.now in
    let i = c.args.i in
    let fits : FitsSigned w32 (x i) = search rules in
    let value = simp to_z-of_z at c.from.ensures in
    let sum = ended f x i c.requires.within (search rules) (search rules) value c.start_of-start.ensures in
    let end : to_z w64 (of_z w64 (to_z w64 (of_z w64 c.from.result) +ℤ to_z w64 (of_z w64 c.start_of-start.result))) ≡ end_of f x i =
    rw sum (to_z-of_z (end_fits f x i c.requires.within)) in
    let start_fits : FitsSigned w64 c.start_of-start.result = search rules in
    let start = to_z-of_z start_fits ∙ c.start_of-start.ensures in
    let to = c.floor_quotient-to.ensures ∙ ap (λ (z : ℤ). floor_quotient z c.args.divisor) end in
    let from = c.floor_quotient-from.ensures ∙ ap (λ (z : ℤ). floor_quotient z c.args.divisor) start in
    let own = apart f x i c.requires.within (search rules) (search rules) to from c.requires.divisor_value in
    rw own (wide f x i c.requires.within)

pub overflow_cast-result : goal.overflow_cast-result
overflow_cast-result c =
    let f = c.args.figure in
    let x = vector c.args.numerators.now in
    let i = c.args.i in
    let fits : FitsSigned w32 (x i) = search rules in
    let value = simp to_z-of_z at c.from.ensures in
    let sum = ended f x i c.requires.within (search rules) (search rules) value c.start_of-start.ensures in
    let end : to_z w64 (of_z w64 (to_z w64 (of_z w64 c.from.result) +ℤ to_z w64 (of_z w64 c.start_of-start.result))) ≡ end_of f x i =
    rw sum (to_z-of_z (end_fits f x i c.requires.within)) in
    let start_fits : FitsSigned w64 c.start_of-start.result = search rules in
    let start = to_z-of_z start_fits ∙ c.start_of-start.ensures in
    let to = c.floor_quotient-to.ensures ∙ ap (λ (z : ℤ). floor_quotient z c.args.divisor) end in
    let from = c.floor_quotient-from.ensures ∙ ap (λ (z : ℤ). floor_quotient z c.args.divisor) start in
    let own = apart f x i c.requires.within (search rules) (search rules) to from c.requires.divisor_value in
    rw (own, to_z-of_z (wide f x i c.requires.within)) (narrow f x i c.requires.within)

pub returns : goal.returns
returns c =
    let f = c.args.figure in
    let x = vector c.args.numerators.now in
    let i = c.args.i in
    let fits : FitsSigned w32 (x i) = search rules in
    let value = simp to_z-of_z at c.from.ensures in
    let sum = ended f x i c.requires.within (search rules) (search rules) value c.start_of-start.ensures in
    let end : to_z w64 (of_z w64 (to_z w64 (of_z w64 c.from.result) +ℤ to_z w64 (of_z w64 c.start_of-start.result))) ≡ end_of f x i =
    rw sum (to_z-of_z (end_fits f x i c.requires.within)) in
    let start_fits : FitsSigned w64 c.start_of-start.result = search rules in
    let start = to_z-of_z start_fits ∙ c.start_of-start.ensures in
    let to = c.floor_quotient-to.ensures ∙ ap (λ (z : ℤ). floor_quotient z c.args.divisor) end in
    let from = c.floor_quotient-from.ensures ∙ ap (λ (z : ℤ). floor_quotient z c.args.divisor) start in
    let own = apart f x i c.requires.within (search rules) (search rules) to from c.requires.divisor_value in
    rw (own, to_z-of_z (wide f x i c.requires.within)) (to_z-of_z (narrow f x i c.requires.within))
