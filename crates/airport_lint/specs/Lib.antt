pub mod Advice
pub mod Sets
pub mod Tables
pub mod Text
pub mod Bars
