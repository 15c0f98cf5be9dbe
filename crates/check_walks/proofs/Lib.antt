pub mod InsideLaws
pub mod StepLaws
mod EndLaws
pub mod CourseLaws
pub mod ToldLaws
mod TableLaws
pub mod AskedLaws
mod ChoiceLaws
