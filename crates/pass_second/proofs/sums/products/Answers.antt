use Rattle.vocabulary.specs.{rules}
use Rattle.pass_second.proofs.Growing.{total_none, total_more}
use Rattle.pass_second.proofs.sums.products.Goals as goal

pub loop-i-init : goal.loop-i-init
loop-i-init c = total_none _ _

pub loop-i-preserved : goal.loop-i-preserved
loop-i-preserved c = total_more {one = c.product-total.result} c.loop-i.invariant (search rules) c.product-total.ensures.small (search rules)
