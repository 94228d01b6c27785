pub mod Codes
pub mod Products
pub mod Places
