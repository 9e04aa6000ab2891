pub mod Likeness
pub mod Owning
