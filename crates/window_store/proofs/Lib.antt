pub mod Spans
mod Releasing
pub mod Standing
pub mod Seconds
pub mod Changes
pub mod Staying
pub mod Pieces
pub mod Runs
pub mod Rooms
pub mod Grown
pub mod Fresh
pub mod Wholes
pub mod Rows
pub mod Counting
