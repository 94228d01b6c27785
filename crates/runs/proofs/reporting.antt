pub mod Packed
pub mod Lines
pub mod Examples
pub mod Together
pub mod Printed
