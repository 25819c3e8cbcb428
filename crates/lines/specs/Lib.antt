pub mod Lays
pub mod Lines
pub mod Worked
