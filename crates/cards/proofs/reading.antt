pub mod Taking
pub mod Loading
