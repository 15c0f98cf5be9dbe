pub mod KnownIn
pub mod Filing
pub mod Choice
pub mod Batch
