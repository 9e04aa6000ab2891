pub mod Sums
pub mod Counts
pub mod Tests
pub mod SlotViews
