use Rattle.std.specs.Prelude.{Ok}
use Rattle.std.proofs.Common.{rules, ◌≡◌, ◌<◌, ◌∙◌, sym, subst, length}
use Rattle.whole.proofs.Lists.{length_listed}
use Rattle.judging.specs.Searches.{results_of}
use Rattle.pass_steps.proofs.Judged.{results_in_range}
use Rattle.pass_steps.proofs.results.results_into.Goals as goal

-- number 7 has passed
pub store_results-requires-clause-by_index : goal.store_results-requires-clause-by_index
store_results-requires-clause-by_index c =
    let passed : c.check_results.result ≡ Ok tt = search rules in
    λ i h. results_in_range (results_of c.args.angles.now c.args.rounded.now) (sym c.check_results.ensures ∙ passed) i
    (subst (λ n. i < n) (sym (length_listed (length c.args.angles.now) _)) h)
