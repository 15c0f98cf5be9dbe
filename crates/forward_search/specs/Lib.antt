pub mod Arrivals
pub mod Reached
