pub mod Signs
pub mod Constraints
pub mod Nested
pub mod Places
pub mod Groups
pub mod Views
pub mod More
pub mod InCommon
