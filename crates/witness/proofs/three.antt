pub mod Listing
pub mod Verdicts
