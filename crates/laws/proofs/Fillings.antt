-- Fillings: the numbers of x and of fillings, and trying them from 0 up.
pub mod Numbering
pub mod Counting
pub mod Trying
pub mod Question
pub mod Calls
pub mod Examples
