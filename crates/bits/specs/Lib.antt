pub mod Bits
pub mod Complement
