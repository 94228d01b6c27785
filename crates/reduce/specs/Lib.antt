pub mod Becoming
pub mod pairs
pub mod folding
