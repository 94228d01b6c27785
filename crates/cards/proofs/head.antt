pub mod Told
pub mod Marking
