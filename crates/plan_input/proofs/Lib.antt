pub mod Firsts
pub mod Plans
