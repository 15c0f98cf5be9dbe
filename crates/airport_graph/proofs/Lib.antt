pub mod Lines
pub mod Joined
