pub mod Lists
pub mod Places
pub mod Kept
pub mod NameOrder
