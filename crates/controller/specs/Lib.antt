pub mod Answer
pub mod Promises
