-- What opening a whole file is stated with.
pub mod Leaving
