pub mod Words
pub mod Starting
pub mod Turns
pub mod Loading
pub mod Storing
pub mod Stepping
pub mod Rows
