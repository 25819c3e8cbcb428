pub mod Numbers
pub mod Order
pub mod Promise
pub mod Questions
pub mod Ranges
pub mod Table
