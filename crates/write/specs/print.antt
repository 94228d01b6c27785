-- What the writing of lines and gates is stated with.
pub mod Words
pub mod Latches
