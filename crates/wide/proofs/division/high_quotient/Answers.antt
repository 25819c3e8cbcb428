use Rattle.vocabulary.specs.{sym, ltb-false}
use Rattle.wide.specs.Wide.{radix}
use Rattle.wide.proofs.Divisions.{high_none}
use Rattle.wide.proofs.division.high_quotient.Goals as goal

pub returns-else-is_word-clause-left : goal.returns-else-is_word-clause-left
returns-else-is_word-clause-left c = high_none c.args.n c.args.d c.ranges.n.fits (ltb-false c.args.d radix (sym c.if-is_word.ensures))
