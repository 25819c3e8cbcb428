use Rattle.std.specs.Prelude.{◌≡◌, ℕ, ◌≤ℤ◌, ◌+ℤ◌, ℤ, pos, length, get_or, nat_abs}
use Rattle.std.proofs.Common.{arith, rules, sym, ap, ◌∙◌, FitsSigned, w32, to_z-of_z}
use Rattle.whole.specs.Sums.{vector}
use Rattle.whole.proofs.Lists.{filled_more, filled_all}
use Rattle.refusals.specs.Ranges.{least_angle, most_angle}
use Rattle.pass_steps.proofs.StepLaws.{listed_at}
use Rattle.pass_steps.proofs.results.store_results.Goals as goal

pub with_correction-requires : goal.with_correction-requires
with_correction-requires c =
    let i = c.loop-i.i in
    let sum : ℕ → ℤ = λ k. pos (get_or c.args.angles.now k 0) +ℤ vector c.args.rounded.now k in
    let is = listed_at (length c.args.angles.now) sum i (omega arith) in
    let range = c.requires.by_index i (omega arith) in
    let fits : FitsSigned w32 (vector c.args.rounded.now i) = search rules in
    let low : pos least_angle ≤ℤ sum i = rw is at range.0 in
    let high : sum i ≤ℤ pos most_angle = rw is at range.1 in
    record { from_least = simp to_z-of_z low; to_most = simp to_z-of_z high }

pub loop-i-preserved : goal.loop-i-preserved
loop-i-preserved c =
    let i = c.loop-i.i in
    let sum : ℕ → ℤ = λ k. pos (get_or c.args.angles.now k 0) +ℤ vector c.args.rounded.now k in
    let is = listed_at (length c.args.angles.now) sum i (omega arith) in
    let fits : FitsSigned w32 (vector c.args.rounded.now i) = search rules in
    let made : c.with_correction.result ≡ nat_abs (sum i) = simp to_z-of_z at c.with_correction.ensures in
    filled_more c.loop-i.invariant (omega arith) (made ∙ sym (ap nat_abs is))

pub returns : goal.returns
returns c = filled_all c.loop-i.invariant (omega arith)
