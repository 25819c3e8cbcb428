-- No text is longer than the room that is promised (`Longest`), so that 2048 bytes hold every one (`Reports`); `Room` tells whether a text
-- has room in what is lent, and `PlaceBounds` bounds the places of refusals.
pub mod Longest
pub mod PlaceBounds
pub mod Reports
pub mod Room
