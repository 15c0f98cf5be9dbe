pub mod Course
pub mod Told
pub mod Steps
pub mod Choice
