pub mod Asked
pub mod three
