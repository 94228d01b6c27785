pub mod Bits
pub mod Examples
pub mod Ranges
pub mod Rewiring
pub mod Carding
pub mod Searching
