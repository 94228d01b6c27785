pub mod Buffers
pub mod Beyond
pub mod Checks
pub mod Answers
