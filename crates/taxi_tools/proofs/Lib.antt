pub mod EndingLaws
pub mod DueLaws
pub mod Promises
pub mod JsonEndings
