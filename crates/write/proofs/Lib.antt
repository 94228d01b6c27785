-- What the proofs of the writers use.
pub mod Parts
pub mod Answers
pub mod Judging
pub mod Writing
