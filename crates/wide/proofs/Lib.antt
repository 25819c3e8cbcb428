-- The laws of wide numbers. For a caller: `Bounds` (a result that 128 bits hold is itself, by bounds that antt multiplies out) and
-- `Narrowing` (the same of one word). `Divisions` has the rounded quotient from a quotient and
-- what it leaves, `Sizes` the laws of what is held of a size, and `Signs` those of signs.
pub mod Bounds
pub mod Divisions
pub mod Narrowing
pub mod Signs
pub mod Sizes
