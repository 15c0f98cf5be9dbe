pub mod LineLaws
pub mod WriteLaws
pub mod DigitLaws
pub mod Pieces
pub mod RowPieces
