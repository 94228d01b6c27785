pub mod Packing
pub mod Fitting
