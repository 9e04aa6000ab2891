pub mod Reduction
pub mod Pairs
pub mod Candidates
pub mod Chains
pub mod Table
