pub mod Pairs
pub mod AnswersTo
pub mod HoldersTo
pub mod LateTo
pub mod BatchTo
pub mod DueTo
pub mod Spares
pub mod Told
