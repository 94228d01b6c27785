-- What the proofs of whole files made of whole files use.
pub mod Smaller
pub mod Files
