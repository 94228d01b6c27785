pub mod Scanning
pub mod Passing
