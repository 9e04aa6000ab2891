pub mod Within
pub mod Counts
pub mod Spans
pub mod NearEnds
pub mod Found
pub mod Phases
pub mod Kept
