pub mod Parts
pub mod Lines
pub mod Words
pub mod Fields
pub mod Texts
pub mod Commands
pub mod Reading
pub mod FirstLines
