pub mod CounterTurns
pub mod CountersLeft
pub mod Turns
pub mod TurnsLeft
