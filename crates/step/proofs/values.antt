pub mod Parts
pub mod Filling
pub mod Codes
