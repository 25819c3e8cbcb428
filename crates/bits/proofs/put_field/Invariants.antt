-- with the bits left of the value laid over the field, the bytes are what is wanted
use Rattle.bits.proofs.Laid.{Going}
use Rattle.bits.proofs.put_field.Given as goal

abbrev pub invariant-loop-place : goal.invariant-loop-place
invariant-loop-place l = Going l.initial.bytes l.at l.width l.value l.bytes l.rest l.place
