use Rattle.std.specs.Prelude.{◌≡◌, suc, length}
use Rattle.std.proofs.Common.{arith, rules, sym, ◌∙◌, FitsSigned, w32, to_z-of_z}
use Rattle.whole.specs.Sums.{vector}
use Rattle.closing.proofs.Anywhere.{one_more, found, nowhere}
use Rattle.closing.proofs.check.some_strays.Invariants.{test}
use Rattle.closing.proofs.check.some_strays.Goals as goal

pub returns-then-strays : goal.returns-then-strays
returns-then-strays c =
    let i = c.loop-i.i in
    let own = test c.args.divisor c.args.numerators.now c.args.offered.now in
    let first : FitsSigned w32 (vector c.args.numerators.now i) = search rules in
    let second : FitsSigned w32 (vector c.args.offered.now i) = search rules in
    let made : c.strays.result ≡ own (suc i) = simp to_z-of_z at c.strays.ensures in
    sym (found own (length c.args.offered.now) i (omega arith) (sym made ∙ c.if-strays.true))

pub loop-i-preserved : goal.loop-i-preserved
loop-i-preserved c =
    let i = c.loop-i.i in
    let own = test c.args.divisor c.args.numerators.now c.args.offered.now in
    let first : FitsSigned w32 (vector c.args.numerators.now i) = search rules in
    let second : FitsSigned w32 (vector c.args.offered.now i) = search rules in
    let made : c.strays.result ≡ own (suc i) = simp to_z-of_z at c.strays.ensures in
    one_more own i c.loop-i.invariant (sym made ∙ c.if-strays.false)

pub returns : goal.returns
returns c =
    sym (nowhere (test c.args.divisor c.args.numerators.now c.args.offered.now) c.loop-i.i (length c.args.offered.now) c.loop-i.invariant (omega arith) (omega arith))
