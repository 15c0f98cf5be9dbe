pub mod Fields
pub mod Fronts
pub mod Reading
pub mod Blocks
pub mod Read
