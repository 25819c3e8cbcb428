-- a turn writes the last bit that is left; with none left the bytes are those wanted
use Rattle.std.proofs.Common.{◌≡◌, ◌-◌, true, arith, rules}
use Rattle.bits.specs.Bits.{inside}
use Rattle.bits.proofs.{Fields.inside_within, Laid.turn, Laid.done}
use Rattle.bits.proofs.put_field.Goals as goal

pub loop-place-preserved : goal.loop-place-preserved
loop-place-preserved c =
    let a = c.args in
    let here : inside a.bytes.now a.at a.width ≡ true = search rules in
    turn a.bytes.now a.at a.width a.value c.loop-place.bytes c.loop-place.rest c.loop-place.place (c.loop-place.place - 1)
    (inside_within a.bytes.now a.at a.width here) (omega arith) (omega arith) c.loop-place.invariant c.put_bit.new.bytes c.put_bit.ensures c.put_bit.auto.bytes
    (λ i. (c.type_inv.bytes i).fits)

pub returns : goal.returns
returns c =
    let a = c.args in
    let here : inside a.bytes.now a.at a.width ≡ true = search rules in
    done a.bytes.now a.at a.width a.value c.loop-place.bytes c.loop-place.rest c.loop-place.place here (omega arith) c.loop-place.invariant
