pub mod Standing
pub mod KeptPlaces
pub mod KeptConstants
pub mod KeptRowLists
pub mod GrowingParts
pub mod Widening
