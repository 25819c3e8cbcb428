-- The laws of `specs/Bits.antt` that a crate above cites: `Numbers`, `Bytes`, `Fields`, `Front`, `Packed`; and those of `specs/Complement.antt`:
-- `Complement`. `Laid`, `Places` and `Runs` serve the proofs of this crate's functions, and `Examples` shows the definitions at work.
pub mod Bytes
pub mod Complement
mod Examples
pub mod Fields
pub mod Front
mod Laid
pub mod Numbers
pub mod Packed
mod Places
mod Runs
