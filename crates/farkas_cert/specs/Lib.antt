pub mod Inequalities
pub mod Combination
pub mod Narrow
pub mod Good
pub mod Fault
pub mod Units
pub mod Named
