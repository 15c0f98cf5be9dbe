pub mod Repairing
pub mod TakenOut
