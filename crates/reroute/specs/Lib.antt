pub mod Refused
pub mod Anew
