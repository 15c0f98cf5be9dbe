pub mod EndingLaws
pub mod DueLaws
pub mod ServedLaws
pub mod HeadlineLaws
pub mod RunEndings
pub mod Promises
