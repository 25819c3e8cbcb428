use Rattle.std.specs.Prelude.{◌≡◌}
use Rattle.vocabulary.specs.{arith, rules, le_refl}
use Rattle.whole.specs.Sums.{vector}
use Rattle.whole.proofs.Lists.{replaced_none, replaced_more}
use Rattle.pass_second.proofs.Growing.{total_none, total_more}
use Rattle.pass_second.proofs.sines.reduced_from.Goals as goal

pub loop-i-init : goal.loop-i-init
loop-i-init c = record { replaced = replaced_none _ _ _ _ c.requires.a_len; squared = total_none _ _ }

pub reduced_one-one-requires-clause-taken_bound : goal.reduced_one-one-requires-clause-taken_bound
reduced_one-one-requires-clause-taken_bound c =
    let left : vector c.loop-i.a c.loop-i.i ≡ vector c.args.a.now c.loop-i.i = c.loop-i.invariant.replaced.left c.loop-i.i (le_refl c.loop-i.i) in
    search rules

pub loop-i-preserved : goal.loop-i-preserved
loop-i-preserved c =
    let left : vector c.loop-i.a c.loop-i.i ≡ vector c.args.a.now c.loop-i.i = c.loop-i.invariant.replaced.left c.loop-i.i (le_refl c.loop-i.i) in
    record {
      replaced = replaced_more c.loop-i.invariant.replaced (omega arith) (search rules);
      squared = total_more {one = c.product-squares.result} c.loop-i.invariant.squared (search rules) c.product-squares.ensures.small (search rules);
    }
