pub mod Rows
pub mod Listed
pub mod Stated
pub mod Faultless
pub mod Limited
pub mod Inside
pub mod Sized
pub mod Unrefused
