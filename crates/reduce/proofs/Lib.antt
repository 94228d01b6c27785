pub mod Leaves
pub mod Replaced
pub mod Reducing
pub mod Answers
