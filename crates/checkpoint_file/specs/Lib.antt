pub mod Lines
pub mod Restored
pub mod Written
