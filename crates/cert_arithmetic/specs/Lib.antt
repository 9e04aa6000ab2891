pub mod Numbers
pub mod Terms
pub mod Units
