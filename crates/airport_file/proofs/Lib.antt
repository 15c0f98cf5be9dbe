mod CsvRecords
mod PlainLines
mod BuildLaws
mod ReadLaws
mod RowsLeft
mod LineLaws
pub mod NamedPlaces
pub mod AcceptedLaws
