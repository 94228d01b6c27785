-- What the proofs of lines and gates use.
pub mod Lines
pub mod Filling
pub mod Sizes
pub mod Begun
pub mod Rows
pub mod Turns
pub mod Gates
pub mod Latches
