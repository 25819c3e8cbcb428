use Rattle.vocabulary.specs.{sym, ◌∙◌, arith, length-append}
use Rattle.judging.proofs.Asking.{none_asked, one_passes, one_fails}
use Rattle.judging.proofs.search.lowest_entry_outside.Goals as goal

pub loop-i-init : goal.loop-i-init
loop-i-init c = none_asked _

pub returns-then-is_outside_at : goal.returns-then-is_outside_at
returns-then-is_outside_at c =
    one_fails _ c.loop-i.i _ c.loop-i.invariant (sym c.is_outside_at.ensures ∙ c.if-is_outside_at.true)
    (omega (arith, length-append c.args.log_sines.now c.args.log_sides.now))

pub loop-i-preserved : goal.loop-i-preserved
loop-i-preserved c = one_passes _ c.loop-i.i c.loop-i.invariant (sym c.is_outside_at.ensures ∙ c.if-is_outside_at.false)
