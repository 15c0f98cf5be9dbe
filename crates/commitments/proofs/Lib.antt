pub mod FirstNamed
pub mod TakenCause
pub mod SameHolds
pub mod Routes
pub mod Numbers
pub mod Fitting
pub mod OneSegment
pub mod Arranged
pub mod Conflicts
pub mod HoldRoom
pub mod StepsIn
pub mod LedgerSteps
pub mod RoomLaws
mod Returned
mod OtherHolders
