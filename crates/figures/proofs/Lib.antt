-- The figures' theorems. `Theorem` is the least-squares theorem of every figure; it rests on `LeastSquares`, over any certified table, on
-- `Pythagoras`, and on the certificates that `Figures` computes by the test of `Certificate`. `BothPasses` has both passes together.
-- `Families` has the conditions by the indices of their angles, `Naming` what a code and an n name, `TwoSines` the corrections of a
-- figure with two sine conditions, `Horizon` the horizon of code 2.
pub mod BothPasses
pub mod Certificate
pub mod Families
pub mod Figures
pub mod Horizon
pub mod LeastSquares
pub mod Naming
pub mod Pythagoras
pub mod Theorem
pub mod TwoSines
