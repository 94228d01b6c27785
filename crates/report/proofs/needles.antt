pub mod Rows
pub mod Counting
pub mod Looping
pub mod Numbers
