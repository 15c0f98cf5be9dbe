pub mod FoundLaws
pub mod WayLaws
pub mod SpreadLaws
pub mod WalkLaws
pub mod NodeLaws
