pub mod Ends
pub mod Gathered
pub mod Turns
pub mod Limits
