pub mod Digits
pub mod RowWords
