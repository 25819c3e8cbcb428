use Rattle.vocabulary.specs.{rules}
use Rattle.wide.proofs.Divisions.{divisor_some, turn_fits, turn_smaller}
use Rattle.wide.proofs.division.word_divided.Goals as goal

pub overflow_add-quotient : goal.overflow_add-quotient
overflow_add-quotient c =
    record {
      fits = turn_fits c.args.n c.args.d c.loop-remainder.quotient c.loop-remainder.remainder c.from-times.result c.loop-remainder.invariant
          (divisor_some c.args.n c.args.d c.requires) (search rules) c.ranges.n.fits;
    }

pub loop-remainder-smaller : goal.loop-remainder-smaller
loop-remainder-smaller c =
    turn_smaller c.args.n c.args.d c.loop-remainder.quotient c.loop-remainder.remainder c.from-times.result c.loop-remainder.invariant
    (divisor_some c.args.n c.args.d c.requires) (search rules) (search rules) (search rules)
