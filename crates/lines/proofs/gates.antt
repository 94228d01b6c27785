pub mod Words
pub mod Sides
pub mod Gathered
pub mod Runs
pub mod RunOn
pub mod Spreading
