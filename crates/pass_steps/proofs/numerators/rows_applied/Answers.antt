use Rattle.std.proofs.Common.{◌≡◌, ◌∙◌, ◌++◌, List, ℤ, pos, ap, take, drop, replicate, arith}
use Rattle.std.proofs.lemmas.Bool.Decides.{nat_tests}
use Rattle.std.proofs.lemmas.Grind.{common_steps}
use Rattle.whole.specs.Lists.{listed}
use Rattle.whole.specs.Sums.{vector, table, applied}
use Rattle.pass_steps.proofs.AppliedRows.{all_applied}
use Rattle.pass_steps.proofs.numerators.rows_applied.Goals as goal

pub returns : goal.returns
returns c =
    let taken : take c.args.conditions (c.copy_over.new.lent ++ drop c.args.conditions (replicate 9 (pos 0))) ≡ c.args.w.now =
    grind (arith, common_steps, nat_tests) in
    all_applied _ 27 _ _ c.nine_applied-3.ensures (omega arith) (omega arith)
    ∙ ap (λ (w : List ℤ). listed c.args.angles (applied c.args.conditions (table c.args.rows) (vector w))) taken
