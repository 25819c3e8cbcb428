use Rattle.std.specs.Prelude.{ℕ, ◌+◌, ◌*◌}
use Rattle.std.proofs.Common.{arith, rules, FitsSigned, w32, to_z-of_z}
use Rattle.std.proofs.lemmas.Int.{ints}
use Rattle.whole.specs.Sums.{vector}
use Rattle.whole.proofs.Sums.{sum_more}
use Rattle.pass_steps.proofs.conditions.run_sum.Goals as goal

pub loop-k-preserved : goal.loop-k-preserved
loop-k-preserved c =
    let more = sum_more c.loop-k.k (λ (i : ℕ). vector c.args.x.now (c.args.first + c.args.step * i)) in
    let fits : FitsSigned w32 (vector c.args.x.now (c.args.first + c.args.step * c.loop-k.k)) = search rules in
    let value = simp to_z-of_z at c.from-total.ensures in
    record { total_is = omega (arith, ints); within = omega (arith, ints) }
