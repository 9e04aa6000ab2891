pub mod Rule
pub mod Wanted
