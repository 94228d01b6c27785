pub mod Leaves
pub mod Read
