pub mod Columns
pub mod Rows
pub mod Presolution
pub mod Renamed
pub mod Answers
