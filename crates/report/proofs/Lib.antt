pub mod Turning
pub mod Listing
pub mod Filling
pub mod Checks
pub mod Laws
