-- What the proofs of whole files use.
pub mod Opened
pub mod Writes
pub mod Files
pub mod Bounds
pub mod Printed
