pub mod Sources
pub mod Statuses
pub mod ErrorText
pub mod Errors
