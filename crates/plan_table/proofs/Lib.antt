pub mod SlackLaws
pub mod RowLaws
pub mod TableLaws
mod OnePlan
