pub mod Values
pub mod Replies
pub mod Lines
pub mod Reading
