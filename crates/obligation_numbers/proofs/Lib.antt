pub mod SeenSums
pub mod Counted
pub mod StoredFirst
pub mod Walked
pub mod Shown
pub mod Saturated
pub mod Levels
pub mod PathCounts
