mod Beginnings
mod Cuts
mod Edited
mod Handed
mod Lent
mod Linked
mod LooseValues
mod Owned
pub mod Owning
mod Progress
mod Relinked
mod Results
mod Rows
pub mod Seconds
mod Spots
mod Values
