pub mod Answers
pub mod Bench
pub mod Due
pub mod Ends
pub mod Given
pub mod Inputs
pub mod Receipts
pub mod Statuses
