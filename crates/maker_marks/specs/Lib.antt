pub mod Tries
pub mod Marks
pub mod Privates
pub mod Cut
