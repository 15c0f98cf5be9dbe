pub mod Counts
pub mod Tallies
pub mod Flights
pub mod Busy
pub mod Figures
