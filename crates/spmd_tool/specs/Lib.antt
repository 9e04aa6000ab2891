pub mod Due
pub mod Written
pub mod Behaves
