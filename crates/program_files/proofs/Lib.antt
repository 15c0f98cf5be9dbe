pub mod EndingLaws
pub mod InputLaws
pub mod DueLaws
