pub mod Usage
pub mod Verb
pub mod LentWords
