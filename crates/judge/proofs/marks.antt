pub mod Turning
pub mod Levels
pub mod Marking
pub mod Finding
