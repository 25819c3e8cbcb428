-- A sheet worked through: what it is turned back with (`Refusals`), and in which three ways it is shown (`ShownAs`). `SheetBounds` and
-- `Sheets` are for the proofs of the functions.
pub mod Refusals
pub mod SheetBounds
mod Sheets
pub mod ShownAs
