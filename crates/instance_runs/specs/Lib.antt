pub mod Stops
pub mod Loads
pub mod LoadPlaces
pub mod Rooms
pub mod Executors
