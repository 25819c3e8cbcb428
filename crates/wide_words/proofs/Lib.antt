-- The laws of two words. For a caller: `Joining` (the words of a number, joined, are the number, and back) and `Reaching` (a number below
-- 2 ^ 127 either way is reached).
pub mod Joining
pub mod Reaching
