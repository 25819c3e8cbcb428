-- The laws that the proofs of the writer use: `Packing` on fields that are written one after the other, `PackerLaws` on the same as the
-- packer holds them, `PartLaws` on the parts of a layout, `GivenLaws` what the writer promises from what its parts answer.
mod GivenLaws
mod Packing
mod PackerLaws
mod PartLaws
