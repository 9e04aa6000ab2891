pub mod Columns
pub mod Texts
pub mod Statements
pub mod Faults
pub mod Listing
pub mod Walk
pub mod RefusalText
pub mod Examples
