pub mod Bytes
pub mod RowFacts
pub mod AnswerLines
