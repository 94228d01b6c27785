pub mod Answers
pub mod Fills
pub mod Loads
