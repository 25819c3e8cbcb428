pub mod Holds
pub mod Page
pub mod Text
