-- A number's text reads back as the number (`Numbers`), and lines give back their parts (`Lines`). `Laying` has the laws of text laid in
-- a buffer, `Spelling` numbers as the library spells them, `Tests` joined tests; `Examples` are lines of document 01.
mod Examples
pub mod Laying
pub mod Lines
pub mod Numbers
pub mod Spelling
pub mod Tests
