pub mod Lowest
pub mod Named
pub mod Steps
pub mod Walked
