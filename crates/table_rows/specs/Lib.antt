pub mod Rows
pub mod HasRows
pub mod Limits
pub mod Reached
pub mod Served
