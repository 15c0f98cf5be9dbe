pub mod Ways
pub mod Courses
pub mod Found
