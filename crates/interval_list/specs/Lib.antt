pub mod Blocks
pub mod Cells
pub mod Edits
pub mod Intervals
pub mod Ownership
pub mod Steps
