pub mod Sines
pub mod Steps
