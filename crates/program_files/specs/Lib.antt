pub mod Exit
pub mod Lines
pub mod LastLine
pub mod Call
pub mod Inputs
pub mod Stops
pub mod Due
