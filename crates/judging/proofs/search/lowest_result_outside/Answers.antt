use Rattle.vocabulary.specs.{ap, ◌∙◌}
use Rattle.judging.specs.Searches.{placed}
use Rattle.judging.proofs.Asking.{results_searched}
use Rattle.judging.proofs.search.lowest_result_outside.Goals as goal

pub returns : goal.returns
returns c = c.place_of.ensures ∙ ap placed c.first_result_outside.ensures.first ∙ results_searched _ _
