pub mod Words
pub mod PlanText
pub mod Refused
pub mod Loose
pub mod Unbroken
pub mod Stops
pub mod Parts
pub mod SyntaxText
