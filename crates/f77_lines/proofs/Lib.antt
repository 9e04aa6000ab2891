pub mod Cuts
pub mod Characters
pub mod Labels
pub mod Entries
pub mod Refused
pub mod Ended
