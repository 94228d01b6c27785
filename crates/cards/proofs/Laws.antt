-- What cards state, and cards and AIGER there and back.
pub mod Records
pub mod Passing
pub mod Exactly
pub mod Spared
pub mod Back
pub mod Calls
pub mod Held
pub mod WithRoom
pub mod Toggle
pub mod Huge
