pub mod After
pub mod Parts
pub mod TextRead
