pub mod Filled
pub mod Forms
pub mod Headers
pub mod Copies
