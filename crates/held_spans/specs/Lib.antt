pub mod Holds
pub mod Rows
pub mod Holders
pub mod Spans
