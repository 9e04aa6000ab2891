pub mod Columns
pub mod Solutions
pub mod Rows
pub mod Pushed
pub mod Searching
pub mod Renaming
pub mod Told
