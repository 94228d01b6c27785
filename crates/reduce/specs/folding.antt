pub mod Rules
pub mod Folded
