pub mod Numbers
pub mod Lines
pub mod Tasks
pub mod Verdicts
pub mod Endings
