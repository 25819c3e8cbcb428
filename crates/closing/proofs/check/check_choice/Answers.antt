use Rattle.std.specs.Prelude.{◌≡◌, ℕ, List, Bool, true, false, ℤ}
use Rattle.vocabulary.specs.{sym, ap, true≢false, ◌∙◌}
use Rattle.figures.specs.{declared.Figure.Figure, Figure.denominator}
use Rattle.closing.specs.Steps.{some_strays}
use Rattle.closing.proofs.Promised.{strays_refused, then_rests, offered_small}
use Rattle.closing.proofs.check.check_choice.Goals as goal
use Rattle.closing.proofs.check.check_choice.Goals.{then-some_strays, else-some_strays}

-- what is found of the divisor is found of the figure's own denominator
found : (f : Figure) (numerators offered : List ℤ) {divisor : ℕ} {strays : Bool} → divisor ≡ denominator f → strays ≡ some_strays divisor numerators offered
    → some_strays (denominator f) numerators offered ≡ strays
found f numerators offered divisor_is said = ap (λ (d : ℕ). some_strays d numerators offered) (sym divisor_is) ∙ sym said

pub some_open-requires-clause-within : goal.some_open-requires-clause-within
some_open-requires-clause-within c =
    offered_small c.args.figure c.args.misclosures.now c.args.numerators.now c.args.offered.now c.requires.offered_len
    (found c.args.figure c.args.numerators.now c.args.offered.now c.requires.divisor_value c.some_strays.ensures ∙ c.if-some_strays.false)
    c.requires.numerators_len c.requires.within_2

pub returns-then-some_open : goal.returns-then-some_open
returns-then-some_open c =
    let strays = found c.args.figure c.args.numerators.now c.args.offered.now c.requires.divisor_value c.some_strays.ensures in
    elim c.if-some_strays.branch [
      | then-some_strays w ↦ strays_refused c.args.figure c.args.misclosures.now c.args.numerators.now c.args.offered.now c.requires.offered_len
          (strays ∙ w.if-some_strays.true)
      | else-some_strays w ↦ then_rests c.args.figure c.args.misclosures.now c.args.numerators.now c.args.offered.now c.requires.offered_len
          (strays ∙ w.if-some_strays.false) true (sym w.some_open.ensures ∙ sym w.value-is ∙ c.if-some_open.true)
    ]

pub returns-else-some_open : goal.returns-else-some_open
returns-else-some_open c =
    let strays = found c.args.figure c.args.numerators.now c.args.offered.now c.requires.divisor_value c.some_strays.ensures in
    elim c.if-some_strays.branch [
      | then-some_strays w ↦ absurd (true≢false (sym w.if-some_strays.true ∙ sym w.value-is ∙ c.if-some_open.false))
      | else-some_strays w ↦ then_rests c.args.figure c.args.misclosures.now c.args.numerators.now c.args.offered.now c.requires.offered_len
          (strays ∙ w.if-some_strays.false) false (sym w.some_open.ensures ∙ sym w.value-is ∙ c.if-some_open.false)
    ]
