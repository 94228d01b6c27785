pub mod Words
pub mod Blaming
pub mod Cleared
pub mod Shown
pub mod Explaining
pub mod Outputs
pub mod Answers
