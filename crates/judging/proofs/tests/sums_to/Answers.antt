use Rattle.std.specs.Prelude.{◌≡◌, ℕ, zero, suc, ◌+◌, eqb, length, drop}
use Rattle.vocabulary.specs.{sym, ap, ◌∙◌, arith, eq-eqb, ne_eqb}
use Rattle.refusals.specs.Table.{sum_of_all}
use Rattle.refusals.proofs.NumberLists.{sum_next, sum_past}
use Rattle.judging.proofs.tests.sums_to.Goals as goal

-- nothing is left of the sum exactly if the values add up to it
left_over : (total left sum : ℕ) → total + left ≡ sum → eqb left 0 ≡ eqb total sum
left_over total zero sum e = sym (eq-eqb total sum (omega (arith, e)))
left_over total (suc left) sum e = ne_eqb (suc left) 0 (λ some. omega (arith, some)) ∙ sym (ne_eqb total sum (λ same. omega (arith, e, same)))

pub returns-then-left-value : goal.returns-then-left-value
returns-then-left-value c =
    let next = sum_next c.args.values.now c.loop-value.value-index (omega arith) in
    sym (ne_eqb (sum_of_all c.args.values.now) c.args.sum (λ same. omega (arith, next, same, c.loop-value.invariant, c.if-left-value.true)))

pub loop-value-preserved : goal.loop-value-preserved
loop-value-preserved c =
    let next = sum_next c.args.values.now c.loop-value.value-index (omega arith) in
    omega (arith, next, c.loop-value.invariant, c.if-left-value.false)

pub returns : goal.returns
returns c =
    let last : c.loop-value.value-index ≡ length c.args.values.now = omega arith in
    let past : sum_of_all (drop c.loop-value.value-index c.args.values.now) ≡ 0 =
    ap (λ (n : ℕ). sum_of_all (drop n c.args.values.now)) last ∙ sum_past c.args.values.now in
    left_over (sum_of_all c.args.values.now) c.loop-value.left c.args.sum (omega (arith, past, c.loop-value.invariant))
