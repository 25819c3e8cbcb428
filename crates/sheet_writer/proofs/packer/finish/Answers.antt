use Rattle.std.proofs.Common.{ℕ, ◌≤◌, List, length, subst, arith, rules}
use Rattle.bits.proofs.Bytes.{AreBytes}
use Rattle.sheet_writer.proofs.PackerLaws.{Emptied, emptied_none, emptied_more, emptied_all, first_is, starts_within}
use Rattle.sheet_writer.proofs.packer.finish.Goals as goal

pub loop-at-init : goal.loop-at-init
loop-at-init c =
    let bytes : AreBytes c.args.sheet.now = search rules in
    emptied_none _ _ _ bytes (starts_within c.args.sheet.now c.args.packer c.requires.well_held c.requires.packer_value) (omega arith)

pub loop-at-preserved : goal.loop-at-preserved
loop-at-preserved c = emptied_more _ _ _ c.loop-at.invariant (search rules)

pub returns : goal.returns
returns c =
    let s : List ℕ = c.args.sheet.now in
    let p = c.args.packer in
    let past : length c.loop-at.sheet ≤ c.loop-at.at = search rules in
    emptied_all s p c.requires.well_held c.requires.packer_value
    (subst (λ (n : ℕ). Emptied s n p.at c.loop-at.sheet c.loop-at.rest c.loop-at.at) (first_is s p c.requires.well_held c.requires.packer_value) c.loop-at.invariant)
    past
