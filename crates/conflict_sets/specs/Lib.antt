pub mod Conflicts
pub mod Gathering
