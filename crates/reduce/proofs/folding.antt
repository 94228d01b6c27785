pub mod Rules
pub mod Step
pub mod Loop
pub mod Lookup
