pub mod OwnCells
pub mod FinalTrips
