pub mod LoopLaws
pub mod AmongLaws
pub mod RowLaws
pub mod EachLaws
pub mod ReachLaws
pub mod ServedLaws
