pub mod TellLaws
pub mod ReachLaws
pub mod SetLaws
pub mod BarLaws
pub mod PassedLaws
pub mod LoopLaws
pub mod JudgeLaws
pub mod TextLaws
pub mod SetTold
mod OneAdvice
