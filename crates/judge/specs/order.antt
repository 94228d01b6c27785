pub mod Numbers
pub mod Waiting
