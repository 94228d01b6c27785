pub mod Moving
pub mod Back
pub mod Printed
