pub mod Asked
pub mod values
pub mod sweep
