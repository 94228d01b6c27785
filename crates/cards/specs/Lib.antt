pub mod Within
pub mod head
pub mod fill
pub mod put
pub mod writing
