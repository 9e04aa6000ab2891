pub mod Levels
pub mod Forming
pub mod Logs
pub mod Gathering
pub mod Next
