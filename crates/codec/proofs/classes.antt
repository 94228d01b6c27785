pub mod ByClass
pub mod Odd
