pub mod Layouts
pub mod Groups
pub mod Graphs
