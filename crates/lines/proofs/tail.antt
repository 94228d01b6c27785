-- What the proofs of the check of a tail use.
pub mod Names
pub mod Lines
pub mod Words
pub mod Agree
pub mod Turns
pub mod Letters
