pub mod Closed
pub mod Tables
pub mod Code
pub mod View
