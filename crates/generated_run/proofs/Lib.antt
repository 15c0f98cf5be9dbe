pub mod OneRun
pub mod Counted
pub mod Answered
pub mod Made
