-- The demands proved, each statement of specs/ under its name. `ByTheTable`, `BothSines`, `Closing`, `Pages` and `WorkedValues` have the
-- laws that they share.
pub mod BothPasses
mod BothSines
mod ByTheTable
mod Closing
pub mod Demand1
pub mod Demand2
pub mod Demand3
mod Pages
pub mod Printed
pub mod RoundingThatCloses
mod WorkedValues
