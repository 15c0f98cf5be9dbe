pub mod Keys
pub mod Least
pub mod Entry
pub mod Heap
pub mod Entries
pub mod First
pub mod Places
