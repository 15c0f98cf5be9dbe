pub mod DateLaws
pub mod StartLaws
pub mod LaterLaws
