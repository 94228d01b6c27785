-- What the check of a tail says of one symbol line and of the marks.
pub mod Marks
