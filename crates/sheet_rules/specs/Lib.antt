pub mod Judging
pub mod Lent
pub mod Promises
pub mod Sheet
