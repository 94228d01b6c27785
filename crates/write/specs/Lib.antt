-- What the writers are stated with.
pub mod Judged
pub mod print
pub mod forms
