pub mod LaidLaws
mod StretchLaws
pub mod RunLaws
pub mod TurnLaws
pub mod GroundLaws
pub mod BesideLaws
pub mod RowLaws
pub mod PlacesNumbered
pub mod StoreConditions
