pub mod Head
pub mod Kinds
pub mod Layout
