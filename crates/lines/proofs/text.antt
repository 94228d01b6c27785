pub mod Parts
pub mod Body
