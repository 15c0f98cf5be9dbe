pub mod CheckLaws
pub mod OneVerdict
