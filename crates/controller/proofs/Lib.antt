-- The laws of what C is answered. For a crate above: `Answers` (what an answer tells) and `PlaceBounds` (no place reaches 256). The
-- others have the ends of each function: `Looked`, `SheetsRead`, `SecondSums`, `TextsReported`; `Lengths` and `Lists` serve them.
pub mod Answers
pub mod Lengths
mod Lists
mod Looked
pub mod PlaceBounds
mod SecondSums
mod SheetsRead
mod TextsReported
