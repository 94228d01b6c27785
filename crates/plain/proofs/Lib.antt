pub mod Codes
pub mod Gates
pub mod Worth
pub mod Asking
pub mod Filling
pub mod Beyond
pub mod Answers
pub mod Examples
