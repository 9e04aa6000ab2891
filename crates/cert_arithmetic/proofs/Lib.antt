pub mod ByOne
pub mod Quotients
