-- The laws of the layout and of the head. For a crate above: `EachKind` (what every kind passes), `Sizes` (how many bits and bytes a
-- sheet has), `Naming` (what numbers name, and what a look answers).
pub mod EachKind
pub mod Naming
pub mod Sizes
