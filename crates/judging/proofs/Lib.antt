-- The steps of a search in a loop, and the value at an index of two lists, for the proofs of `search`.
mod Asking
mod Following
