pub mod Premises
pub mod Steps
