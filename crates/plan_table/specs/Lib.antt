pub mod Slack
pub mod Rows
pub mod Plan
