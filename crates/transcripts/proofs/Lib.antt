pub mod RunLaws
pub mod CommandsIn
pub mod OneAfter
pub mod OneRun
