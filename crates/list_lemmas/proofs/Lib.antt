pub mod Tests
pub mod Integers
pub mod Appending
pub mod Gets
pub mod Options
pub mod Elements
pub mod Each
pub mod Ranges
