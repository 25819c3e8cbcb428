use Rattle.std.proofs.Common.{◌≡◌, ◌∙◌, ◌*◌, ◌^◌, arith, rules, get_or, pos, FitsSigned, w8, w32, to_z, of_z, to_z-of_z}
use Rattle.pass_steps.specs.Premises.{most_applied}
use Rattle.pass_steps.proofs.Totals.{more}
use Rattle.pass_steps.proofs.numerators.row_applied.Goals as goal

pub loop-j-preserved : goal.loop-j-preserved
loop-j-preserved c =
    let at = c.loop-j in
    let coefficient : FitsSigned w8 (get_or c.args.row at.j (pos 0)) = search rules in
    let misclosure : FitsSigned w32 (get_or c.args.w.now at.j (pos 0)) = search rules in
    let product = simp to_z-of_z at c.product-total.ensures in
    let read : to_z w32 (of_z w32 c.product-total.result) ≡ c.product-total.result = search rules in
    let turn = more w32 (2 ^ 7 * most_applied) _ at.j _ _ (omega arith) at.invariant.total_is at.invariant.small (read ∙ product.0) (rw read product.1) in
    record { total_is = turn.total_is; small = turn.within }
