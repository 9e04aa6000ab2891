pub mod Same
pub mod Agree
