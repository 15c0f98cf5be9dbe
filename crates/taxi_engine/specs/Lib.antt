pub mod Engine
pub mod Done
pub mod Routed
pub mod Rerouted
pub mod Choosing
pub mod Batched
pub mod Repaired
