pub mod LoopLaws
pub mod PlaceLaws
pub mod KnownLaws
pub mod ListCuts
pub mod RuleLaws
pub mod ArcLaws
pub mod VerdictLaws
mod ListReturns
mod ReturnLaws
