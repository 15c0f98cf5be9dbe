pub mod Names
pub mod NameOrder
pub mod Stored
pub mod Edits
