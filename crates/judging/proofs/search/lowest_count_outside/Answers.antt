use Rattle.vocabulary.specs.{ap, ◌∙◌}
use Rattle.judging.specs.Searches.{placed}
use Rattle.judging.proofs.Asking.{outside_searched}
use Rattle.judging.proofs.search.lowest_count_outside.Goals as goal

pub returns : goal.returns
returns c = c.place_of.ensures ∙ ap placed c.first_count_outside.ensures.first ∙ outside_searched _ _ _
