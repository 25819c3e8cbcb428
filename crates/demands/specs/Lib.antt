pub mod BothPasses
pub mod Demand1
pub mod Demand2
pub mod Demand3
pub mod Printed
pub mod RoundingThatCloses
