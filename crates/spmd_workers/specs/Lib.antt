pub mod Places
pub mod Held
pub mod Legs
pub mod Walks
pub mod Tables
pub mod Workers
pub mod Teams
