-- Laws of needle reports.
pub mod Sums
pub mod Parts
pub mod Zero
pub mod DemandThree
pub mod Examples
