pub mod LoopsThere
