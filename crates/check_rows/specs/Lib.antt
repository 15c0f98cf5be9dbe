pub mod Known
pub mod Cuts
pub mod Verdict
pub mod Rules
pub mod Comes
pub mod Returns
