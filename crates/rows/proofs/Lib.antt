pub mod Lists
pub mod Reports
pub mod Planes
