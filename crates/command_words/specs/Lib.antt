pub mod Rule
pub mod Wanted
pub mod Refusals
pub mod Plain
pub mod Settings
pub mod Sweeps
