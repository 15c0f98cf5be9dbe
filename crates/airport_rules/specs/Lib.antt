pub mod Faults
pub mod Versions
pub mod Plan
pub mod Rules
pub mod Indexed
pub mod Sound
pub mod Judged
pub mod Places
