-- The laws of the sheets. For a crate above: `Refusals` (when a sheet is turned back), `ReadThenWritten` and `WrittenThenRead` (both
-- round trips), `Accepted` and `InRange` (what an accepted sheet is, and what reader and writer answer once kind and figure are known).
-- `Filling` (number 13 and the field that the filling is), `Layouts` and `Positions` (where the fields stand) serve the proofs of reader
-- and writer; `Examples` shows the definitions at work.
pub mod Accepted
mod Examples
pub mod Filling
pub mod InRange
pub mod Layouts
pub mod Positions
pub mod ReadThenWritten
pub mod Refusals
pub mod WrittenThenRead
