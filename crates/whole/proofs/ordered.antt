-- What the proofs of opening a whole file use.
pub mod Converted
