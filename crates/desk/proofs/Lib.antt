pub mod Tails
pub mod Answers
pub mod Reporting
pub mod RowsAnswers
