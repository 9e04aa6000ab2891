pub mod Anchors
pub mod Scopes
