pub mod HeldLaws
mod TakenLaws
mod HolderLaws
pub mod FiledLaws
mod ChoiceLaws
