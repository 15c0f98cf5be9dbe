pub mod Verb
pub mod Given
pub mod LentWords
pub mod Usage
