pub mod FlightsFound
pub mod LiftedConditions
pub mod FoundAnew
pub mod AsBefore
