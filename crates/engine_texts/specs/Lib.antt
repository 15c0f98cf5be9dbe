pub mod Log
pub mod Session
pub mod InStep
pub mod Texts
