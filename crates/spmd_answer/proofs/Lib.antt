pub mod Answering
pub mod Benches
pub mod Existence
pub mod Statuses
mod Sweeps
pub mod Unique
mod Left
