-- The theorem of the rounding that closes: `FloorLaws` has the laws of division downwards and upwards, `Closes` that the choice is the
-- whole tenth just below or just above, and that every rest is 0; `BothRules` says it of the lists, and what number 15 asks; `Refusing`
-- is on the orders. `Promised` goes from the steps to the operations; `Starts` says where angles start, `Anywhere` what tests over places
-- find.
mod Anywhere
pub mod BothRules
pub mod Closes
pub mod FloorLaws
mod Promised
pub mod Refusing
mod Starts
