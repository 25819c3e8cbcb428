use Rattle.vocabulary.specs.{ap, ◌∙◌, to_z-of_z}
use Rattle.judging.specs.Searches.{placed}
use Rattle.judging.proofs.Asking.{signed_searched}
use Rattle.judging.proofs.search.lowest_signed_outside.Goals as goal

pub returns : goal.returns
returns c = c.place_of.ensures ∙ ap placed (simp (to_z-of_z, c.ranges.least, c.ranges.most) at c.first_signed_outside.ensures.first) ∙ signed_searched _ _ _
