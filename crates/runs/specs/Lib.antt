pub mod stimulus
pub mod trace
pub mod comparing
pub mod reporting
