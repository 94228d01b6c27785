pub mod Codes
pub mod Wrong
pub mod Sides
pub mod Anew
pub mod Answers
