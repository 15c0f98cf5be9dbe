pub mod Marks
pub mod Times
pub mod Later
pub mod Read
