pub mod Tallying
pub mod needles
