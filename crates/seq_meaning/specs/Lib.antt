pub mod ValueLaws
pub mod Lines
pub mod Loads
pub mod Executions
pub mod Room
