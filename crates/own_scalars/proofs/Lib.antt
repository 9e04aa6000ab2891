pub mod Ranges
pub mod Stored
pub mod OwnLaws
mod Examples
