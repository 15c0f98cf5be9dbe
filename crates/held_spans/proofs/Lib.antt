pub mod SumLaws
mod RowLaws
pub mod FirstLaws
pub mod SpanLaws
pub mod AloneLaws
pub mod LoopLaws
mod InOrderLaws
