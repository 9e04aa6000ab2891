pub mod Points
pub mod Settled
