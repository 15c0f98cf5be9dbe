pub mod DueLaws
pub mod TakenOut
pub mod AnswerLaws
pub mod Told
pub mod RouteLaws
pub mod RoutedDue
mod ChosenDue
pub mod ReroutedDue
pub mod ReroutedTold
pub mod BatchLaws
mod LateDone
