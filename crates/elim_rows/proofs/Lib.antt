pub mod Divisors
pub mod Combined
pub mod Covering
pub mod Hashing
pub mod Putting
