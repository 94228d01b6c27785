pub mod Asked
pub mod Planes
pub mod lanes
