pub mod FirstPass
pub mod Lent
pub mod Pass
pub mod Promises
pub mod SecondPass
