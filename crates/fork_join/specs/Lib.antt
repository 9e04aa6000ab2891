pub mod Overlays
pub mod StoreLists
pub mod Joins
pub mod SeenDeeds
pub mod Cursors
pub mod Workers
pub mod Ends
