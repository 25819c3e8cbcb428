-- The first pass meets its promise; and how large the numbers of an accepted one are.
pub mod FirstBounds
mod FirstPromised
mod FirstSteps
