pub mod Starts
pub mod Counted
