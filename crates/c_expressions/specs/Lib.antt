pub mod CExpressions
pub mod Grammar
pub mod Names
pub mod Numbers
pub mod Sums
pub mod Told
pub mod Reader
