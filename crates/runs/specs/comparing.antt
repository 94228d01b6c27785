pub mod Lined
pub mod Both
