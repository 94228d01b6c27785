pub mod Ready
pub mod renumber
