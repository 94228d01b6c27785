pub mod Parts
pub mod Lines
pub mod Running
pub mod Answers
pub mod Parting
pub mod Printed
