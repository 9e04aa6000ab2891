pub mod Processors
pub mod Machines
pub mod Views
pub mod Promises
pub mod Ends
