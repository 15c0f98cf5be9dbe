pub mod Rows
pub mod Answers
pub mod Schedule
pub mod Accepted
