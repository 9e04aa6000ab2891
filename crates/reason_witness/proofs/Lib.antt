pub mod Questions
pub mod Refused
pub mod Searched
pub mod Slots
pub mod Told
