-- One gate rewired: definitions and laws.
pub mod Rewired
pub mod Screen
pub mod Rows
pub mod Call
pub mod Again
