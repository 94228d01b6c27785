pub mod Marking
pub mod Retaining
pub mod Folds
pub mod Reaching
pub mod Dropping
