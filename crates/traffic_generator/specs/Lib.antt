pub mod Draws
pub mod Places
pub mod Grid
pub mod Flights
pub mod Texts
