pub mod Answering
pub mod Dues
pub mod Endings
pub mod Told
