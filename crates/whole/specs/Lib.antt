-- What whole files are stated with.
pub mod Opening
pub mod Parts
pub mod Lent
pub mod ordered
