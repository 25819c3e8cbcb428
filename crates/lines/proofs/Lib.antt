-- The lines read back as what they print (`ReadingBack`), how long they are at most (`Lengths`), and the printed sheets of document 01
-- (`Cases`). `WideNumbers` is for callers that hold numerators as words; `Texts` and `Laid` are for the proofs of the functions that lay
-- lines.
pub mod Cases
pub mod Laid
pub mod Lengths
pub mod ReadingBack
pub mod Texts
pub mod WideNumbers
