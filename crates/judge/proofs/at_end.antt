pub mod Heads
pub mod Leaving
pub mod Closing
