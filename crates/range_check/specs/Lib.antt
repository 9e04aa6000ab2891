pub mod OutsideText
pub mod Outside
pub mod Sites
pub mod RangeSystems
pub mod Certified
pub mod Seen
pub mod Stops
