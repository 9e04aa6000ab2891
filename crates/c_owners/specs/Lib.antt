pub mod Owners
pub mod Closings
pub mod Phases
