pub mod OwnScalars
pub mod Looks
pub mod Examples
