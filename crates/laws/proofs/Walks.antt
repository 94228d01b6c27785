-- Walks through gates, and unused gates dropped.
pub mod Walk
pub mod Parts
pub mod Used
pub mod Dropped
pub mod Twice
pub mod Reduced
pub mod Later
pub mod Dropping
pub mod DemandThree
pub mod WholeFiles
pub mod Places
pub mod Examples
