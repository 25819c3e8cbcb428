use Rattle.std.specs.Prelude.{refl, length}
use Rattle.vocabulary.specs.{ap, arith}
use Rattle.text.specs.{Page.laid_on}
use Rattle.text.proofs.{Laying.laid_spelled, Spelling.spelled}
use Rattle.text.proofs.page.Page.put_digits.Goals as goal

pub write_digits-requires : goal.write_digits-requires
write_digits-requires c =
    let size = ap length (spelled c.args.value c.ranges.value.fits) in (omega (arith, size), omega arith)

pub returns : goal.returns
unfolding laid_on
returns c = (
  refl,
  laid_spelled c.args.self.now.buffer.now c.write_digits.new.buf c.args.self.now.at c.args.count c.write_digits.result (spelled c.args.value c.ranges.value.fits) c.requires.count c.requires.room c.write_digits.ensures.start c.write_digits.ensures.written c.write_digits.ensures.before,
)
