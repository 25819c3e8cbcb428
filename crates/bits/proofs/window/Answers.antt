-- the eight bytes are copied, and read as one number
use Rattle.std.proofs.Common.{◌∙◌}
use Rattle.bits.proofs.Runs.{eight_within}
use Rattle.bits.proofs.window.Goals as goal

pub returns : goal.returns
returns c =
    c.from_be_bytes.ensures
    ∙ eight_within c.args.bytes.now _ c.args.first (λ i. (c.type_inv.bytes i).fits) c.requires c.copy_from_slice.ensures.after
