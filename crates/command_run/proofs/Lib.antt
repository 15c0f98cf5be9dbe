pub mod BegunFiles
pub mod Blocks
pub mod PaceLaws
pub mod Reading
pub mod Supplied
pub mod Taken
pub mod Told
