pub mod Candidates
pub mod Same
pub mod Sites
