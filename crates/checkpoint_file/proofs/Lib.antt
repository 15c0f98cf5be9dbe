pub mod Pieces
pub mod PlainWords
pub mod CommandsAgain
pub mod ReadAgain
pub mod PartLaws
pub mod DueLaws
pub mod RunLaws
