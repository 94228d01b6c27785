-- What the proofs of a refusal's line use.
pub mod Line
