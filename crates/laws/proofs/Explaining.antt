-- What blames what in a step: laws of the places that made an output 0 or 1.
pub mod Explained
pub mod Marked
pub mod Calls
pub mod Examples
