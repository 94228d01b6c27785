pub mod Words
pub mod Places
pub mod Next
pub mod Telling
