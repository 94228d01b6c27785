-- What making whole files of whole files is stated with.
pub mod Passes
pub mod Wholes
