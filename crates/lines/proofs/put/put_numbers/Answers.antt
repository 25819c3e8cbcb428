-- each turn lays one number more, with a space before it, and the byte ends them
use Rattle.std.proofs.Common.{◌≡◌, [], ◌∷◌, ◌++◌, List, ℤ, pos, get_or, take, sym, ap, ap₂, ◌∙◌, arith, rules, w64, FitsSigned, to_z-of_z}
use Rattle.std.proofs.lemmas.List.{nil_from_length}
use Rattle.vocabulary.specs.{take_all}
use Rattle.text.specs.Text.{decimal, spaced, space}
use Rattle.lines.specs.{Lays.numbers_ended, Lines.numbers}
use Rattle.lines.proofs.Laid.{lays_as, lays_then, number_more}
use Rattle.lines.proofs.put.put_numbers.Goals as goal
use Rattle.lines.proofs.put.put_numbers.Goals.{in-Some+else-loop-value-test, in_default}

pub loop-value-init : goal.loop-value-init
unfolding spaced
loop-value-init c =
    let fits : FitsSigned w64 c.in-Some.first.now = search rules in
    lays_as _ (ap decimal (to_z-of_z {w = w64} fits ∙ ap (λ (l : List ℤ). get_or l 0 (pos 0)) (sym c.in-Some.ensures.cases.0))) c.put_number.ensures

pub loop-value-preserved : goal.loop-value-preserved
loop-value-preserved c =
    let others = c.in-Some.others.now in
    let i = c.loop-value.value-index in
    let fits : FitsSigned w64 (get_or others i (pos 0)) = search rules in
    lays_as _
    (ap (λ (z : ℤ). spaced (numbers (get_or c.args.values.now 0 (pos 0) ∷ take i others)) ++ (space ∷ decimal z)) (to_z-of_z {w = w64} fits)
    ∙ number_more _ others i c.loop-value-test.true)
    (lays_then _ _ _ c.loop-value.invariant (lays_then _ _ _ c.put_byte.ensures c.put_number-in-loop-value.ensures))

pub returns : goal.returns
unfolding numbers_ended spaced
returns c =
    let a = c.args in
    elim c.match-split_first.branch [
      | in-Some+else-loop-value-test w ↦
          let split = w.in-Some.ensures.cases.0 in
          let all : get_or a.values.now 0 (pos 0) ∷ take w.loop-value.value-index w.in-Some.others.now ≡ a.values.now =
          ap₂ ◌∷◌ (ap (λ (l : List ℤ). get_or l 0 (pos 0)) split) (take_all w.loop-value.value-index w.in-Some.others.now (omega arith)) ∙ sym split in
          lays_as _ (ap (λ (l : List ℤ). spaced (numbers l) ++ (a.end ∷ [])) all)
          (lays_then _ _ _ w.loop-value.invariant (rw w.page-is at c.put_byte-2.ensures))
      | in_default w ↦
          lays_as _ (ap (λ (l : List ℤ). numbers_ended l a.end) (sym (nil_from_length a.values.now w.in_default.ensures.cases))) (rw w.page-is at c.put_byte-2.ensures)
    ]
