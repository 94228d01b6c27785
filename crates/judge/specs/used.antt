pub mod Least
pub mod Reach
