mod Parts
mod FirstLine
pub mod Numbers
mod Stored
mod Gathering
mod FiledSteps
mod ChosenNames
mod BatchRequests
mod AskedWords
pub mod ArcWords
pub mod FirstPlace
