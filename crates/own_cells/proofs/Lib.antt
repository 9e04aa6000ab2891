pub mod LoopValues
pub mod Places
