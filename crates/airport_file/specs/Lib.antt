pub mod Rows
pub mod Reading
pub mod Words
pub mod Plain
pub mod Built
pub mod Refused
