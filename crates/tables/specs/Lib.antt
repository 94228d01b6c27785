pub mod Lengths
pub mod Held
pub mod bitmap
