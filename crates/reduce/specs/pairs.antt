pub mod Tree
pub mod Pairs
