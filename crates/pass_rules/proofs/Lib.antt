-- The laws of both passes. `FirstAccepted` and `SecondAccepted` say what an accepted pass knows of its numbers, `Horizon` that first
-- corrections close the horizon of code 2, `Rests` that a rest is small, `SecondLaws` that the second corrections open no condition and
-- cancel each sine misclosure, `SineSums` what the sums are without known sides, `StarredCases` the starred cases of document 01.
-- `Refusals` and `PassRows` are on the orders, `ResultLengths`, `SideCounts` and `WithinRange` on lengths, counts and ranges.
pub mod FirstAccepted
mod FirstExamples
pub mod Horizon
pub mod PassRows
pub mod Refusals
pub mod Rests
pub mod ResultLengths
pub mod SecondAccepted
mod SecondExamples
pub mod SecondLaws
pub mod SideCounts
pub mod SineSums
pub mod StarredCases
pub mod WithinRange
