use Rattle.std.proofs.Common.{◌≡◌, ◌∙◌, arith, rules, ap, ap₂, get_or, pos, w32, to_z, of_z}
use Rattle.whole.specs.Quotient.{rounded_quotient}
use Rattle.whole.proofs.Lists.{filled_more, filled_all}
use Rattle.figures.specs.declared.Counts.{Counts}
use Rattle.pass_first.proofs.quotients.over.Goals as goal

pub loop-i-preserved : goal.loop-i-preserved
loop-i-preserved g c =
    let numerator = get_or c.args.numerators.now c.loop-i.i (pos 0) in
    let taken : to_z w32 (of_z w32 numerator) ≡ numerator = search rules in
    let read : to_z w32 (of_z w32 c.quotient.result) ≡ c.quotient.result = search rules in
    let denominator = ap (λ (n : Counts). n.denominator) g.met.F.FigureTable.counted in
    filled_more c.loop-i.invariant (omega arith) (read ∙ c.quotient.ensures ∙ ap₂ rounded_quotient taken (c.D.ensures ∙ denominator))

pub returns : goal.returns
returns g c = filled_all c.loop-i.invariant (omega arith)
