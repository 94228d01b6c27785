pub mod Lookup
pub mod Running
