pub mod Counted
mod Numbers
mod PlainSweeps
mod PlainWords
pub mod Sorts
