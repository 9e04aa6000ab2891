pub mod Counts
pub mod MemorySource
pub mod MemorySink
pub mod StandardSink
