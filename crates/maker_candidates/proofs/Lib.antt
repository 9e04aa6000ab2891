pub mod Stops
pub mod Once
pub mod OneOwner
pub mod Owned
pub mod Lists
