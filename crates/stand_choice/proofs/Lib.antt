pub mod FirstNames
pub mod EndNodes
pub mod ArrivalWays
pub mod DepartureWays
