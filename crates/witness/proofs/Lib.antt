pub mod Words
pub mod Vectors
pub mod Attempts
pub mod Verdicts
