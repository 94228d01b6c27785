pub mod Counting
pub mod Judging
pub mod Shorter
pub mod Stages
pub mod Sound
