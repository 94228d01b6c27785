pub mod Told
pub mod Reported
pub mod RowsTold
pub mod Lent
