pub mod Marks
pub mod Retained
pub mod Reached
