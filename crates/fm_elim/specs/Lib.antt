pub use Rattle.elim_rows.specs.Pairs
pub mod Answers
pub mod Moved
pub mod Reached
pub mod Advances
pub mod Lean
