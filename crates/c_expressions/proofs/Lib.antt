pub mod Appending
pub mod Spelled
pub mod Summed
pub mod Multiples
pub mod WordSums
pub mod Telling
pub mod ReadBack
pub mod ProgramForms
