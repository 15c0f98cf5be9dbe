pub mod Book
pub mod Taken
pub mod Holders
pub mod Held
pub mod Room
pub mod Others
