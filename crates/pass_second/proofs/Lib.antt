-- The second pass meets its promise; and how large the numbers of an accepted one are.
pub mod AcceptedBounds
mod CorrectionSteps
pub mod Exact
mod Growing
mod Passed
mod SecondPromised
mod SecondSteps
pub mod SineBounds
mod SineSteps
mod SumSteps
pub mod Tolerance
