pub mod Accepted
pub mod Counted
