pub mod Asked
pub mod Findings
pub mod Plans
pub mod Reasons
