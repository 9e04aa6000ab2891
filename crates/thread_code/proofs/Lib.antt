pub mod Rounded
pub mod TripCounts
pub mod OwnValues
pub mod Along
pub mod Found
pub mod Blocks
pub mod Turns
pub mod Forms
mod Codes
mod Made
mod Fitting
