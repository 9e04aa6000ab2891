pub mod Spans
pub mod Within
pub mod Stops
pub mod Small
pub mod InEnds
pub mod Outputs
pub mod Visited
