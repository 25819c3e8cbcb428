pub mod Choice
pub mod Floor
pub mod Premises
pub mod Promises
pub mod Rules
pub mod Steps
