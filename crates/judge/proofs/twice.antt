pub mod Defined
pub mod Marking
pub mod Rows
