pub mod Filling
pub mod Spreading
pub mod Judged
