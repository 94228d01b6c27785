pub mod Scan
pub mod Length
pub mod Count
pub mod Filling
