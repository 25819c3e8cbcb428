-- what is held is the number of the bytes taken so far
use Rattle.std.proofs.Common.{◌≡◌, take}
use Rattle.bits.specs.Bits.{value, bits_of}
use Rattle.bits.proofs.number_of.Given as goal

abbrev pub invariant-loop-byte : goal.invariant-loop-byte
invariant-loop-byte l = l.held ≡ value (bits_of (take l.byte-index l.bytes))
